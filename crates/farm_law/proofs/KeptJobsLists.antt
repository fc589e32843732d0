-- Lists whose keys rise, what is found or left out of a list, and names that stand once.
use Rattle.std.proofs.Common.{◌≡◌, ℕ, suc, zero, ◌+◌, ◌<◌, ◌≤◌, Bool, true, false, cond, List, [], ◌∷◌, ◌++◌, map, Option, Some, None, refl, ap, sym, subst, ◌∙◌, arith}
use Rattle.std.specs.Prelude.{bytes_eq, nat_eq}
use Rattle.std.specs.List.{AllByRecursion, IsDistinct, filter, find, list_any, slice_get}
use Rattle.std.specs.Option.{option_or}
use Rattle.std.proofs.lemmas.Bool.{or_parts}
use Rattle.std.proofs.lemmas.Cmp.{nat_list_eq_equiv}
use Rattle.std.proofs.lemmas.List.Folds.{find-append}
use Rattle.std.proofs.lemmas.Map.Keys.{IsDistinct-cons}
use Rattle.std.proofs.lemmas.Option.{none-some, same_Some}
use Rattle.farm_types.specs.declared.job.LayerSpec.{LayerSpec}
use Rattle.farm_types.specs.Farm.{for_some}
use Rattle.farm_types.specs.Jobs.{repeated_name}
use Rattle.farm_types.specs.Rising.{IsRising}
use Rattle.farm_types.proofs.Lists.{for_some_true}

-- ---- keys that rise

-- the bounds are in order
pub rising_within : {X : Type 0} (key : X → ℕ) (low : ℕ) (xs : List X) (high : ℕ) → IsRising key low xs high → low ≤ high
rising_within key low [] high rise = rise
rising_within key low (x ∷ xs) high rise = omega (arith, rise.0, rising_within key (key x + 1) xs high rise.1)

-- each key is below the bound
pub rising_below : {X : Type 0} (key : X → ℕ) (low : ℕ) (xs : List X) (high n : ℕ) (x : X) → IsRising key low xs high → slice_get xs n ≡ Some x → key x < high
rising_below key low [] high n x rise at = absurd (none-some x at)
rising_below key low (y ∷ ys) high zero x rise at =
    let within = rising_within key (key y + 1) ys high rise.1 in
    subst (λ z. key z < high) (same_Some y x at) (omega (arith, within))
rising_below key low (y ∷ ys) high (suc n) x rise at = rising_below key (key y + 1) ys high n x rise.1 at

pub rising_lower : {X : Type 0} (key : X → ℕ) (low mid : ℕ) (ys : List X) (high : ℕ) → low ≤ mid → IsRising key mid ys high → IsRising key low ys high
rising_lower key low mid [] high h rise = omega (arith, h, rise)
rising_lower key low mid (y ∷ ys) high h rise = (omega (arith, h, rise.0), rise.1)

-- keys that stay rise as they did
pub rising-map : {X : Type 0} (key : X → ℕ) (change : X → X) → ((x : X) → key (change x) ≡ key x) → (low : ℕ) (xs : List X) (high : ℕ) → IsRising key low xs high → IsRising key low (map change xs) high
rising-map key change same low [] high rise = rise
rising-map key change same low (x ∷ xs) high rise =
    subst (λ (n : ℕ). (low ≤ n) × IsRising key (n + 1) (map change xs) high) (sym (same x)) (rise.0, rising-map key change same (key x + 1) xs high rise.1)

-- two such lists one after the other
pub rising-append : {X : Type 0} (key : X → ℕ) (low mid high : ℕ) (xs ys : List X) → IsRising key low xs mid → IsRising key mid ys high → IsRising key low (xs ++ ys) high
rising-append key low mid high [] ys first second = rising_lower key low mid ys high first second
rising-append key low mid high (x ∷ xs) ys first second = (first.0, rising-append key (key x + 1) mid high xs ys first.1 second)

-- ---- found and left out

module _ {X : Type 0} (test : X → Bool) where
  find_step_none : (b : Bool) (x : X) (o : Option X) → b ≡ false → o ≡ None → cond b (Some x) o ≡ None
  find_step_none b x o fails none = rw fails none

  -- nothing is found where no item passes
  pub find_none : (xs : List X) → ((n : ℕ) (x : X) → slice_get xs n ≡ Some x → test x ≡ false) → find test xs ≡ None
  find_none [] fails = refl
  find_none (x ∷ xs) fails = find_step_none (test x) x (find test xs) (fails 0 x refl) (find_none xs (λ n y at. fails (suc n) y at))

  -- nor kept
  pub filter_none : (xs : List X) → ((n : ℕ) (x : X) → slice_get xs n ≡ Some x → test x ≡ false) → filter test xs ≡ []
  filter_none [] fails = refl
  filter_none (x ∷ xs) fails = ap (λ (b : Bool). cond b (x ∷ filter test xs) (filter test xs)) (fails 0 x refl) ∙ filter_none xs (λ n y at. fails (suc n) y at)

  -- what is found is found in a longer list
  pub found_more : (xs more : List X) (x : X) → find test xs ≡ Some x → find test (xs ++ more) ≡ Some x
  found_more xs more x at = find-append test xs more ∙ ap (λ (o : Option X). option_or o (find test more)) at

  -- what isn't found is looked for in the rest
  pub found_later : (xs more : List X) → find test xs ≡ None → find test (xs ++ more) ≡ find test more
  found_later xs more none = find-append test xs more ∙ ap (λ (o : Option X). option_or o (find test more)) none

  -- a test of what is found holds in a longer list
  pub for_some_more : (passes : X → Bool) (xs more : List X) → for_some (find test xs) passes ≡ true → for_some (find test (xs ++ more)) passes ≡ true
  for_some_more passes xs more h =
      let found = for_some_true (find test xs) passes h in
      rw (found_more xs more found.0 found.1) found.2

-- ---- names that stand once

-- what no item passes, the one at a place doesn't
pub any_fails : {X : Type 0} (test : X → Bool) (xs : List X) (n : ℕ) (x : X) → list_any test xs ≡ false → slice_get xs n ≡ Some x → test x ≡ false
any_fails test [] n x any at = absurd (none-some x at)
any_fails test (y ∷ ys) zero x any at = subst (λ z. test z ≡ false) (same_Some y x at) (or_parts (test y) (list_any test ys) any).0
any_fails test (y ∷ ys) (suc n) x any at = any_fails test ys n x (or_parts (test y) (list_any test ys) any).1 at

-- a layer's name
abbrev pub spec_name : LayerSpec → List ℕ
spec_name l = l.name

pub some_none : {X : Type 0} (x : X) → Some x ≡ None → ⊥
some_none x e = cc

-- no repeated name: the first one didn't stand before, and no later one is repeated
repeated_step : (b : Bool) (before : List (List ℕ)) (l : LayerSpec) (ls : List LayerSpec) → list_any (λ name. bytes_eq l.name name) before ≡ b
    → cond b (Some l.name) (repeated_name (l.name ∷ before) ls) ≡ None → (list_any (λ name. bytes_eq l.name name) before ≡ false) × (repeated_name (l.name ∷ before) ls ≡ None)
repeated_step true before l ls is none = absurd (some_none l.name none)
repeated_step false before l ls is none = (is, none)

not_repeated : (before : List (List ℕ)) (l : LayerSpec) (ls : List LayerSpec) → repeated_name before (l ∷ ls) ≡ None
    → (list_any (λ name. bytes_eq l.name name) before ≡ false) × (repeated_name (l.name ∷ before) ls ≡ None)
not_repeated before l ls none = repeated_step (list_any (λ name. bytes_eq l.name name) before) before l ls refl none

-- a name that stood before is none of the later ones
apart_later : (before : List (List ℕ)) (n : ℕ) (name : List ℕ) (ls : List LayerSpec) → slice_get before n ≡ Some name → repeated_name before ls ≡ None
    → AllByRecursion (λ (y : List ℕ). bytes_eq name y ≡ false) (map spec_name ls)
apart_later before n name [] at none = tt
apart_later before n name (l ∷ ls) at none =
    let first = not_repeated before l ls none in
    (nat_list_eq_equiv.symm name l.name ∙ any_fails (λ other. bytes_eq l.name other) before n name first.0 at, apart_later (l.name ∷ before) (suc n) name ls at first.1)

-- no name, none twice
pub names_none : IsDistinct bytes_eq []
unfolding IsDistinct
names_none = tt

pub nothing_differs : IsDistinct nat_eq []
unfolding IsDistinct
nothing_differs = tt

-- layers without a repeated name have names that differ
pub names_differ : (before : List (List ℕ)) (ls : List LayerSpec) → repeated_name before ls ≡ None → IsDistinct bytes_eq (map spec_name ls)
names_differ before [] none = names_none
names_differ before (l ∷ ls) none =
    let first = not_repeated before l ls none in
    IsDistinct-cons bytes_eq l.name (map spec_name ls) (apart_later (l.name ∷ before) 0 l.name ls refl first.1) (names_differ (l.name ∷ before) ls first.1)
