-- The first ones of entries, walked one by one; and how many commits come before one.
use Rattle.std.proofs.Common.{◌≡◌, ◌∙◌, ℕ, zero, suc, ◌+◌, ◌-◌, ◌≤◌, ◌<◌, Bool, true, false, cond, List, [], ◌∷◌, length, drop, get_or, take, None, Some, sym, ap, subst, arith}
use Rattle.std.specs.Prelude.{slice_get}
use Rattle.std.proofs.lemmas.List.{drop_more}
use Rattle.std.proofs.lemmas.Option.{none-some, same_Some, slice_get_within}
use Rattle.farm_types.specs.declared.entry.Entry.{Entry}
use Rattle.farm_types.specs.Farm.{Farm}
use Rattle.farm_types.specs.Run.{IsLegal, run_of}
use Rattle.farm_types.specs.Step.{after}
use Rattle.world_answers.specs.Reporting.{Counts, trues}

-- so many entries are left to walk, of these
pub record IsBefore (f : Farm) (all : List Entry) (number : ℕ) (made : Farm) (left : ℕ) (rest : List Entry) : Type 0 where
  pub legal : IsLegal made rest
  pub goes_on : run_of made (take left rest) ≡ run_of f (take (number + 1) all)

walked_one : (f : Farm) (all : List Entry) (number left : ℕ) (made next : Farm) (e : Entry) (rest : List Entry) → 0 < left → next ≡ after made e
    → IsBefore f all number made left (e ∷ rest) → IsBefore f all number next (left - 1) rest
walked_one f all number zero made next e rest some is so = absurd (omega (arith, some))
walked_one f all number (suc left) made next e rest some is so =
    let fewer : suc left - 1 ≡ left = omega arith in
    record {
      legal = subst (λ (g : Farm). IsLegal g rest) (sym is) so.legal.1;
      goes_on = ap (λ (n : ℕ). run_of next (take n rest)) fewer ∙ (ap (λ (g : Farm). run_of g (take left rest)) is ∙ so.goes_on);
    }

pub walks_first : (f : Farm) (all : List Entry) (number left i : ℕ) (made next : Farm) (e : Entry) → i < length all → e ≡ get_or all i e → 0 < left
    → next ≡ after made e
    → IsBefore f all number made left (drop i all) → IsBefore f all number next (left - 1) (drop (i + 1) all)
walks_first f all number left i made next e within is some next_is so =
    walked_one f all number left made next e (drop (i + 1) all) some next_is
    (subst (IsBefore f all number made left) (drop_more all i e within ∙ ap (λ (x : Entry). x ∷ drop (i + 1) all) (sym is)) so)

-- so many commits come before the flag at hand
pub record IsCounting (stored : List Bool) (number index place count : ℕ) : Type 0 where
  pub at : place ≡ index
  pub counted : count ≡ trues (take place stored)
  pub few : count ≤ place
  pub within : place ≤ number
  pub inside : place ≤ length stored

trues_more : (bs : List Bool) (n : ℕ) (b : Bool) → slice_get bs n ≡ Some b → trues (take (suc n) bs) ≡ trues (take n bs) + cond b 1 0
trues_more [] n b is = absurd (none-some b is)
trues_more (true ∷ bs) zero b is = let one : ◌≡◌ {A = ℕ} (cond true 1 0) (cond b 1 0) =
    ap (λ (c : Bool). cond c 1 0) (same_Some true b is) in omega (arith, one)
trues_more (false ∷ bs) zero b is = let one : ◌≡◌ {A = ℕ} (cond false 1 0) (cond b 1 0) =
    ap (λ (c : Bool). cond c 1 0) (same_Some false b is) in omega (arith, one)
trues_more (true ∷ bs) (suc n) b is = let more = trues_more bs n b is in omega (arith, more)
trues_more (false ∷ bs) (suc n) b is = trues_more bs n b is

pub counts_on : (stored : List Bool) (number index place count : ℕ) (b : Bool) → IsCounting stored number index place count → slice_get stored index ≡ Some b
    → (place ≡ number → ⊥) → (more : ℕ) → more ≡ count + cond b 1 0 → IsCounting stored number (index + 1) (place + 1) more
counts_on stored number index place count b so is off more grown =
    let at = so.at in
    let here : slice_get stored place ≡ Some b = subst (λ (n : ℕ). slice_get stored n ≡ Some b) (sym at) is in
    let suc_is : suc place ≡ place + 1 = omega arith in
    let next : trues (take (place + 1) stored) ≡ trues (take place stored) + cond b 1 0 =
    subst (λ (n : ℕ). trues (take n stored) ≡ trues (take place stored) + cond b 1 0) suc_is (trues_more stored place b here) in
    let fewer : cond b 1 0 ≤ 1 = one b in
    let inside = slice_get_within stored place b here in
    record {
      at = omega (arith, at);
      counted = omega (arith, so.counted, next, grown);
      few = omega (arith, so.few, grown, fewer);
      within = below so.within off;
      inside = omega (arith, inside);
    }
  where
    one : (b : Bool) → cond b 1 0 ≤ 1
    one true = omega arith
    one false = omega arith

    below : place ≤ number → (place ≡ number → ⊥) → place + 1 ≤ number
    below within off = omega (arith, within, off)

-- so by the flag that is read
pub flag_at : (stored : List Bool) (index : ℕ) (b : Bool) → index < length stored → get_or stored index false ≡ b → slice_get stored index ≡ Some b
flag_at [] index b within is = absurd (omega (arith, within))
flag_at (c ∷ cs) zero b within is = ap Some is
flag_at (c ∷ cs) (suc index) b within is = flag_at cs index b (omega (arith, within)) is

-- it is none of them
pub counts_none : (stored : List Bool) (number index place count : ℕ) → IsCounting stored number index place count → length stored ≤ index
    → Counts stored number None
counts_none stored number index place count so over =
    λ there. (let inside = slice_get_within stored number true there in let at = so.at in omega (arith, at, so.within, over, inside))
