-- Tests of all items of a list, and of what there is.
use Rattle.std.proofs.Common.{◌≡◌, ℕ, suc, zero, Bool, true, false, cond, List, [], ◌∷◌, Option, Some, None, refl, take, option_map}
use Rattle.std.specs.List.{list_all}
use Rattle.std.proofs.lemmas.Option.{none-some, same_Some}
use Rattle.std.specs.Cmp.Derive.{both_true}
use Rattle.farm_types.specs.Farm.{for_some}
use Rattle.farm_types.proofs.Lists.{and_both}

-- what holds of both holds of the one that a test picks
pub cond_each : {X : Type 0} (P : X → Type 0) (b : Bool) (x y : X) → P x → P y → P (cond b x y)
cond_each P true x y at_x at_y = at_x
cond_each P false x y at_x at_y = at_y

-- what is there passes the test
pub for_some-there : {X : Type 0} (o : Option X) (test : X → Bool) (x : X) → o ≡ Some x → test x ≡ true → for_some o test ≡ true
for_some-there o test x there passes = rw there passes

pub list_all-take : {X : Type 0} (test : X → Bool) (n : ℕ) (xs : List X) → list_all test xs ≡ true → list_all test (take n xs) ≡ true
list_all-take test zero xs all = refl
list_all-take test (suc n) [] all = refl
list_all-take test (suc n) (x ∷ xs) all =
    let both = and_both (test x) (list_all test xs) all in
    both_true both.0 (list_all-take test n xs both.1)

-- what a value was mapped from
pub option_map-from : {X Y : Type 0} (change : X → Y) (o : Option X) (y : Y) → option_map change o ≡ Some y → (x : X) × (o ≡ Some x) × (change x ≡ y)
option_map-from change None y at = absurd (none-some y at)
option_map-from change (Some x) y at = (x, refl, same_Some (change x) y at)
