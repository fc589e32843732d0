-- A change of the place of one number.
use Rattle.std.proofs.Common.{◌≡◌, ℕ, suc, ◌+◌, ◌<◌, ◌≤◌, Bool, true, false, cond, List, [], ◌∷◌, map, eqb, refl, sym, ap, subst, ◌∙◌, length, arith}
use Rattle.std.specs.List.{position_or_len}
use Rattle.std.proofs.lemmas.Bool.{eqb-true, ne_eqb}
use Rattle.std.proofs.lemmas.Option.{slice_get_within}
use Rattle.farm_types.specs.Farm.{changed_at}
use Rattle.farm_types.specs.Rising.{IsRising}
use Rattle.farm_types.proofs.ChangedLists.{changed_at_kept, changed_at_suc}

module _ {X : Type 0} (key : X → ℕ) (change : X → X) where
  abbrev pub changed_by : ℕ → X → X
  changed_by n x = cond (eqb (key x) n) (change x) x

  -- numbers above it aren't it
  pub above_stay : (n low : ℕ) (xs : List X) (high : ℕ) → n < low → IsRising key low xs high → map (changed_by n) xs ≡ xs
  above_stay n low [] high less rise = refl
  above_stay n low (x ∷ xs) high less rise =
      λ j. cond (ne_eqb (key x) n (λ e. absurd (omega (arith, rise.0, e, less))) j) (change x) x ∷ above_stay n (key x + 1) xs high (omega (arith, rise.0, less)) rise.1 j

  -- the place of the number, if it is there
  pub changed_one : (n low : ℕ) (xs : List X) (high : ℕ) → IsRising key low xs high → changed_at xs (position_or_len (λ x. eqb (key x) n) xs) change ≡ map (changed_by n) xs
  changed_one n low [] high rise = refl
  changed_one n low (x ∷ xs) high rise = step (eqb (key x) n) refl (changed_one n (key x + 1) xs high rise.1) where
    step : (b : Bool) → eqb (key x) n ≡ b → changed_at xs (position_or_len (λ y. eqb (key y) n) xs) change ≡ map (changed_by n) xs
        → changed_at (x ∷ xs) (position_or_len (λ y. eqb (key y) n) (x ∷ xs)) change ≡ map (changed_by n) (x ∷ xs)
    step true is rest =
        let stay = above_stay n (key x + 1) xs high (omega (arith, eqb-true (key x) n is)) rise.1 in
        rw (is, stay) refl
    step false is rest =
        let p = position_or_len (λ y. eqb (key y) n) xs in
        let at : position_or_len (λ y. eqb (key y) n) (x ∷ xs) ≡ suc p = rw is (omega arith) in
        let same : x ∷ map (changed_by n) xs ≡ map (changed_by n) (x ∷ xs) = rw is refl in
        ap (λ (m : ℕ). changed_at (x ∷ xs) m change) at ∙ changed_at_suc x xs p change ∙ ap (λ (ys : List X). x ∷ ys) rest ∙ same

  -- past the last place nothing changes
  pub none_changed : (n low : ℕ) (xs : List X) (high : ℕ) → IsRising key low xs high → length xs ≤ position_or_len (λ x. eqb (key x) n) xs → xs ≡ map (changed_by n) xs
  none_changed n low xs high rise past =
      sym (changed_at_kept xs (position_or_len (λ x. eqb (key x) n) xs) change (λ x at. absurd (omega (arith, past, slice_get_within xs _ x at)))) ∙ changed_one n low xs high rise

  -- numbers stay
  pub rising_changed : ((x : X) → key (change x) ≡ key x) → (n low : ℕ) (xs : List X) (high : ℕ) → IsRising key low xs high → IsRising key low (map (changed_by n) xs) high
  rising_changed keeps n low [] high rise = rise
  rising_changed keeps n low (x ∷ xs) high rise = step (eqb (key x) n) (rising_changed keeps n (key x + 1) xs high rise.1) where
    step : (b : Bool) → IsRising key (key x + 1) (map (changed_by n) xs) high → IsRising key low (cond b (change x) x ∷ map (changed_by n) xs) high
    step true more = (omega (arith, rise.0, keeps x), subst (λ (k : ℕ). IsRising key (k + 1) (map (changed_by n) xs) high) (sym (keeps x)) more)
    step false more = (rise.0, more)
