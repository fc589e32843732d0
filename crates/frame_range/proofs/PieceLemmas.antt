-- Texts cut at a byte.
use Rattle.std.proofs.Common.{◌≡◌, ℕ, suc, ◌+◌, ◌<◌, ◌≤◌, List, [], ◌∷◌, length, Bool, true, false, cond, refl, sym, ap, ◌∙◌, arith, subst, take, drop, ⊎_elim}
use Rattle.std.specs.Prelude.{Option, Some, None, Result, Ok, Err, not, nat_lt}
use Rattle.std.specs.Option.{option_map}
use Rattle.std.specs.List.{position, position_or_len}
use Rattle.std.proofs.lemmas.Bool.{cases_lt, lt-ltb, le-ltb}
use Rattle.frame_range.specs.declared.section.Section.{Section}
use Rattle.frame_range.specs.declared.fault.RangeFault.{RangeFault}
use Rattle.frame_range.specs.declared.fault.RangeFault.TheVariants.{Syntax, OutOfRange, ZeroStep, WrongWay, Empty, TooMany, NoMemory}
use Rattle.frame_range.specs.ParseResults.{Fails, Gives}
use Rattle.frame_range.specs.Sets.{numbers_of, IsFaultless, is_comma, onto_first, pieces, add_section, sections_from, set_of, ◌>>=◌}

-- ---- the first byte that passes a test

below_same : (m n : ℕ) → nat_lt (suc m) (suc n) ≡ nat_lt m n
below_same m n =
    ⊎_elim
    (λ (low : m < n). lt-ltb (suc m) (suc n) (omega arith) ∙ sym (lt-ltb m n low))
    (λ (high : n ≤ m). le-ltb (suc m) (suc n) (omega arith) ∙ sym (le-ltb m n high))
    (cases_lt m n)

some_next : (b : Bool) (m : ℕ) → cond b (Some (suc m)) None ≡ option_map suc (cond b (Some m) None)
some_next true m = refl
some_next false m = refl

position_by : (test : Bool) (m n : ℕ) →
    cond (nat_lt (cond (not test) (suc m) 0) (suc n)) (Some (cond (not test) (suc m) 0)) None
    ≡ cond test (Some 0) (option_map suc (cond (nat_lt m n) (Some m) None))
position_by true m n = ap (λ (b : Bool). cond {A = Option ℕ} b (Some 0) None) (lt-ltb 0 (suc n) (omega arith))
position_by false m n = ap (λ (b : Bool). cond b (Some (suc m)) None) (below_same m n) ∙ some_next (nat_lt m n) m

pub position-cons : (p : ℕ → Bool) (x : ℕ) (xs : List ℕ) → position p (x ∷ xs) ≡ cond (p x) (Some 0) (option_map suc (position p xs))
position-cons p x xs =
    let next : 1 + position_or_len p xs ≡ suc (position_or_len p xs) = omega arith in
    ap (λ (n : ℕ). cond (nat_lt (cond (not (p x)) n 0) (suc (length xs))) (Some (cond (not (p x)) n 0)) None) next
    ∙ position_by (p x) (position_or_len p xs) (length xs)

-- ---- pieces

pieces_step : (t : Bool) (o : Option ℕ) (b : ℕ) (bs : List ℕ) (i : ℕ) → cond t (Some 0) (option_map suc o) ≡ Some i →
    ((j : ℕ) → o ≡ Some j → pieces bs ≡ take j bs ∷ pieces (drop (j + 1) bs)) →
    cond t ([] ∷ pieces bs) (onto_first b (pieces bs)) ≡ take i (b ∷ bs) ∷ pieces (drop (i + 1) (b ∷ bs))
pieces_step true o b bs i h rest = let none : 0 ≡ i = cc in subst (λ (k : ℕ). [] ∷ pieces bs ≡ take k (b ∷ bs) ∷ pieces (drop (k + 1) (b ∷ bs))) none refl
pieces_step false None b bs i h rest = absurd (cc)
pieces_step false (Some j) b bs i h rest =
    let next : suc j ≡ i = cc in
    let onward : suc j + 1 ≡ suc (j + 1) = omega arith in
    subst (λ (k : ℕ). onto_first b (pieces bs) ≡ take k (b ∷ bs) ∷ pieces (drop (k + 1) (b ∷ bs))) next
    (ap (onto_first b) (rest j refl) ∙ ap (λ (k : ℕ). (b ∷ take j bs) ∷ pieces (drop k (b ∷ bs))) (sym onward))

-- the text before the first comma, and the pieces of what follows it
pub pieces_at : (text : List ℕ) (i : ℕ) → position is_comma text ≡ Some i → pieces text ≡ take i text ∷ pieces (drop (i + 1) text)
pieces_at [] i h = absurd (cc)
pieces_at (b ∷ bs) i h =
    pieces_step (is_comma b) (position is_comma bs) b bs i (sym (position-cons is_comma b bs) ∙ h) (λ j k. pieces_at bs j k)

last_step : (t : Bool) (o : Option ℕ) (b : ℕ) (bs : List ℕ) → cond t (Some 0) (option_map suc o) ≡ None →
    (o ≡ None → pieces bs ≡ bs ∷ []) → cond t ([] ∷ pieces bs) (onto_first b (pieces bs)) ≡ (b ∷ bs) ∷ []
last_step true o b bs h rest = absurd (cc)
last_step false None b bs h rest = ap (onto_first b) (rest refl)
last_step false (Some j) b bs h rest = absurd (cc)

-- a text without commas is one piece
pub pieces_last : (text : List ℕ) → position is_comma text ≡ None → pieces text ≡ text ∷ []
pieces_last [] h = refl
pieces_last (b ∷ bs) h = last_step (is_comma b) (position is_comma bs) b bs (sym (position-cons is_comma b bs) ∙ h) (λ k. pieces_last bs k)

-- ---- sections, one after another

pub numbers_none : numbers_of [] ≡ []
unfolding numbers_of
numbers_none = refl

pub set_none : IsFaultless []
set_none = record { faultless = refl }

pub set_of_is : (text : List ℕ) → set_of text ≡ sections_from [] (pieces text)
unfolding set_of
set_of_is text = refl

pub sections_ok : (before now : List Section) (text : List ℕ) (texts : List (List ℕ)) → add_section before text ≡ Ok now →
    sections_from before (text ∷ texts) ≡ sections_from now texts
sections_ok before now text texts h = ap (λ (r : Result (List Section) RangeFault). r >>= λ s. sections_from s texts) h

-- the fault of a step is the fault of all
pub Fails_bind : {A B : Type 0} (e : RangeFault) (known : Result A RangeFault) (f : A → Result B RangeFault) (whole : Result B RangeFault) →
    whole ≡ (known >>= f) → Fails e known → Fails e whole
Fails_bind NoMemory known f whole is h = tt
Fails_bind (Syntax n) known f whole is h = is ∙ ap (λ r. r >>= f) h
Fails_bind (OutOfRange n) known f whole is h = is ∙ ap (λ r. r >>= f) h
Fails_bind (ZeroStep n) known f whole is h = is ∙ ap (λ r. r >>= f) h
Fails_bind (WrongWay n) known f whole is h = is ∙ ap (λ r. r >>= f) h
Fails_bind (Empty n) known f whole is h = is ∙ ap (λ r. r >>= f) h
Fails_bind (TooMany n) known f whole is h = is ∙ ap (λ r. r >>= f) h

pub sections_fault : (e : RangeFault) (before : List Section) (text : List ℕ) (texts : List (List ℕ)) (whole : Result (List Section) RangeFault) →
    whole ≡ sections_from before (text ∷ texts) → Fails e (add_section before text) → Fails e whole
sections_fault e before text texts whole is h = Fails_bind e (add_section before text) (λ s. sections_from s texts) whole is h

-- the exit by a fault
pub Gives_exit : (Y X : Type 0) (view : Y → X) (r : Result Y RangeFault) (known : Result X RangeFault) (d e : RangeFault) → r ≡ Err d → d ≡ e →
    Fails e known → Gives view r known
Gives_exit Y X view r known d e p q h = subst (λ (v : Result Y RangeFault). Gives view v known) (sym (p ∙ ap Err q)) h
