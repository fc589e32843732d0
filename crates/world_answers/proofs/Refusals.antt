-- Which entry the store refuses: the one at which as many commits were taken as come before it.
use Rattle.std.proofs.Common.{◌≡◌, ◌∙◌, ℕ, suc, zero, ◌+◌, Bool, true, false, List, [], ◌∷◌, ◌++◌, length, take, Option, None, Some, refl, sym, ap, subst, ◌≤◌, inl, inr, arith}
use Rattle.std.specs.Prelude.{slice_get}
use Rattle.std.proofs.lemmas.Bool.{true≢false}
use Rattle.std.proofs.lemmas.Option.{none-some, same_Some}
use Rattle.farm_types.specs.declared.entry.Entry.{Entry}
use Rattle.farm_types.specs.Farm.{Farm}
use Rattle.farm_types.specs.Run.{run_of}
use Rattle.farm_types.specs.Step.{after}
use Rattle.line_answers.specs.recorder.specs.Telling.{EndsTelling, TakesEach, TakesRows, Tells}
use Rattle.world_answers.specs.declared.refusing.Refusing.{Refusing}
use Rattle.world_answers.specs.Marks.{refusals}
use Rattle.world_answers.specs.Refusing.{IsOneFewer}
use Rattle.world_answers.specs.Reporting.{trues}
use Rattle.world_answers.specs.Walking.{AreSaid, Says}

-- ---- a store that refuses none

row_none : (f g : Farm) (before now : Refusing) → TakesRows refusals f g before now → before.due ≡ None → now.due ≡ None
row_none f g before now (inl (same, is)) none = ap (λ (k : Refusing). k.due) is ∙ none
row_none f g before now (inr told) none = subst (λ (o : Option ℕ). IsOneFewer o now.due) none told.told

each_none : (f : Farm) (es : List Entry) (before now : Refusing) → TakesEach refusals f es before now → before.due ≡ None → now.due ≡ None
each_none f [] before now same none = ap (λ (k : Refusing). k.due) same ∙ none
each_none f (e ∷ es) before now (next, row, rest) none = each_none (after f e) es next now rest (row_none f (after f e) before next row none)

ends_none : (f : Farm) (rest : List Entry) (mid now : Refusing) → EndsTelling refusals f rest true mid now → mid.due ≡ None → ⊥
ends_none f [] mid now (failed, same) none = true≢false failed
ends_none f (e ∷ rest) mid now told none = none-some 0 (sym none ∙ told.told)

-- it doesn't fail
pub never_fails : (f : Farm) (all done : List Entry) (before now : Refusing) → before.due ≡ None → Tells refusals f all done true before now → ⊥
never_fails f all done before now none tells = ends_none (run_of f done) tells.rest tells.mid now tells.ends
    (each_none f done before tells.mid tells.taken none)

-- ---- a store that refuses one

row_some : (f g : Farm) (b : Bool) (m : ℕ) (before now : Refusing) → Says b f g → TakesRows refusals f g before now → before.due ≡ Some m
    → (c : ℕ) × (now.due ≡ Some c) × (c + trues (b ∷ []) ≡ m)
row_some f g true m before now changes (inl (same, is)) due = absurd (changes same)
row_some f g false m before now says (inl (same, is)) due = (m, ap (λ (k : Refusing). k.due) is ∙ due, omega arith)
row_some f g false m before now says (inr told) due = absurd (told.changes says)
row_some f g true m before now says (inr told) due =
    let fewer : IsOneFewer (Some m) now.due = subst (λ (o : Option ℕ). IsOneFewer o now.due) due told.told in
    (fewer.0, fewer.2, omega (arith, fewer.1))

-- so many commits are left, once those among the first entries were taken
each_some : (f : Farm) (done rest : List Entry) (bs : List Bool) (m : ℕ) (before now : Refusing) → AreSaid f (done ++ rest) bs
    → TakesEach refusals f done before now → before.due ≡ Some m
    → (c : ℕ) × (now.due ≡ Some c) × (c + trues (take (length done) bs) ≡ m)
each_some f [] rest bs m before now said same due = (m, ap (λ (k : Refusing). k.due) same ∙ due, omega arith)
each_some f (e ∷ es) rest [] m before now said taken due = absurd said
each_some f (e ∷ es) rest (b ∷ bs) m before now (says, said) (next, row, taken) due =
    let one = row_some f (after f e) b m before next says row due in
    let more = each_some (after f e) es rest bs one.0 next now said taken one.1 in
    (more.0, more.1, both b bs (length es) one.0 more.0 m one.2 more.2)
  where
    both : (b : Bool) (bs : List Bool) (n c left m : ℕ) → c + trues (b ∷ []) ≡ m → left + trues (take n bs) ≡ c → left + trues (b ∷ take n bs) ≡ m
    both true bs n c left m first later = omega (arith, first, later)
    both false bs n c left m first later = omega (arith, first, later)

-- ---- the entry

-- the commit that is refused is there
at_refused : (f : Farm) (done rest : List Entry) (bs : List Bool) → AreSaid f (done ++ rest) bs → (mid now : Refusing)
    → EndsTelling refusals (run_of f done) rest true mid now
    → (slice_get bs (length done) ≡ Some true) × (mid.due ≡ Some 0)
at_refused f [] [] bs said mid now (failed, same) = absurd (true≢false failed)
at_refused f [] (e ∷ rest) [] said mid now told = absurd said
at_refused f [] (e ∷ rest) (true ∷ bs) said mid now told = (refl, told.told)
at_refused f [] (e ∷ rest) (false ∷ bs) said mid now told = absurd (told.changes said.0)
at_refused f (d ∷ done) rest [] said mid now ends = absurd said
at_refused f (d ∷ done) rest (b ∷ bs) said mid now ends = at_refused (after f d) done rest bs said.1 mid now ends

-- only one entry has so many commits before it
one_place : (bs : List Bool) (j k : ℕ) → slice_get bs j ≡ Some true → slice_get bs k ≡ Some true → trues (take j bs) ≡ trues (take k bs) → j ≡ k
one_place [] j k is also same = absurd (none-some true is)
one_place (b ∷ bs) zero zero is also same = refl
one_place (true ∷ bs) zero (suc k) is also same = absurd (omega (arith, same))
one_place (false ∷ bs) zero (suc k) is also same = absurd (true≢false (sym (same_Some false true is)))
one_place (true ∷ bs) (suc j) zero is also same = absurd (omega (arith, same))
one_place (false ∷ bs) (suc j) zero is also same = absurd (true≢false (sym (same_Some false true also)))
one_place (true ∷ bs) (suc j) (suc k) is also same = ap suc (one_place bs j k is also (omega (arith, same)))
one_place (false ∷ bs) (suc j) (suc k) is also same = ap suc (one_place bs j k is also same)

-- where the store failed, it did so at the entry that was to be refused
pub fails_at : (f : Farm) (all done : List Entry) (bs : List Bool) (number : ℕ) (before now : Refusing) → AreSaid f all bs → slice_get bs number ≡ Some true
    → before.due ≡ Some (trues (take number bs)) → Tells refusals f all done true before now → length done ≡ number
fails_at f all done bs number before now said there due tells =
    let said_so : AreSaid f (done ++ tells.rest) bs = subst (λ (es : List Entry). AreSaid f es bs) tells.all_are said in
    let left = each_some f done tells.rest bs (trues (take number bs)) before tells.mid said_so tells.taken due in
    let found = at_refused f done tells.rest bs said_so tells.mid now tells.ends in
    let none_left : left.0 ≡ 0 = same_Some left.0 0 (sym left.1 ∙ found.1) in
    one_place bs (length done) number found.0 there (omega (arith, left.2, none_left))

-- it doesn't come past that entry
past : (bs : List Bool) (number n : ℕ) → slice_get bs number ≡ Some true → number + 1 ≤ n → trues (take number bs) + 1 ≤ trues (take n bs)
past [] number n is below = absurd (none-some true is)
past (b ∷ bs) number zero is below = absurd (omega (arith, below))
past (true ∷ bs) zero (suc n) is below = omega arith
past (false ∷ bs) zero (suc n) is below = absurd (true≢false (sym (same_Some false true is)))
past (true ∷ bs) (suc number) (suc n) is below = omega (arith, past bs number n is (omega (arith, below)))
past (false ∷ bs) (suc number) (suc n) is below = omega (arith, past bs number n is (omega (arith, below)))

pub not_past : (f : Farm) (all done : List Entry) (bs : List Bool) (number : ℕ) (before now : Refusing) (failed : Bool) → AreSaid f all bs
    → slice_get bs number ≡ Some true
    → before.due ≡ Some (trues (take number bs)) → Tells refusals f all done failed before now → number + 1 ≤ length done → ⊥
not_past f all done bs number before now failed said there due tells below =
    let said_so : AreSaid f (done ++ tells.rest) bs = subst (λ (es : List Entry). AreSaid f es bs) tells.all_are said in
    let left = each_some f done tells.rest bs (trues (take number bs)) before tells.mid said_so tells.taken due in
    omega (arith, left.2, past bs number (length done) there below)

-- the flags are as many as the entries
pub said_length : (f : Farm) (es : List Entry) (bs : List Bool) → AreSaid f es bs → length bs ≡ length es
said_length f [] [] said = refl
said_length f [] (b ∷ bs) said = absurd said
said_length f (e ∷ es) [] said = absurd said
said_length f (e ∷ es) (b ∷ bs) said = ap suc (said_length (after f e) es bs said.1)
