-- Lists and tests: a test of all items at a place, what is there, and what is found.
use Rattle.std.proofs.Common.{◌≡◌, ℕ, suc, zero, ◌<◌, Bool, true, false, ◌&&◌, List, [], ◌∷◌, length, Option, Some, None, refl, arith, subst}
use Rattle.std.specs.List.{list_all, slice_get, find}
use Rattle.std.proofs.lemmas.Option.{none-some, same_Some}
use Rattle.std.proofs.lemmas.Bool.{false≢true}
use Rattle.std.specs.Cmp.Derive.{both_true}
use Rattle.farm_types.specs.Farm.{for_some}

pub and_both : (a b : Bool) → (a && b) ≡ true → (a ≡ true) × (b ≡ true)
and_both true b h = (refl, h)
and_both false b h = absurd (false≢true h)

-- a test that holds of what there is
pub for_some_true : {X : Type 0} (o : Option X) (test : X → Bool) → for_some o test ≡ true → (x : X) × (o ≡ Some x) × (test x ≡ true)
for_some_true None test h = absurd (false≢true h)
for_some_true (Some x) test h = (x, refl, h)

pub list_all-at : {X : Type 0} (test : X → Bool) (xs : List X) (n : ℕ) (x : X) → list_all test xs ≡ true → slice_get xs n ≡ Some x → test x ≡ true
list_all-at test [] n x all at = absurd (none-some x at)
list_all-at test (y ∷ ys) zero x all at = subst (λ z. test z ≡ true) (same_Some y x at) (and_both (test y) (list_all test ys) all).0
list_all-at test (y ∷ ys) (suc n) x all at = list_all-at test ys n x (and_both (test y) (list_all test ys) all).1 at

pub list_all-from_at : {X : Type 0} (test : X → Bool) (xs : List X) → ((n : ℕ) (x : X) → slice_get xs n ≡ Some x → test x ≡ true) → list_all test xs ≡ true
list_all-from_at test [] h = refl
list_all-from_at test (y ∷ ys) h = both_true (h 0 y refl) (list_all-from_at test ys (λ n x at. h (suc n) x at))

-- a place below the length has an item
pub slice_get_below : {X : Type 0} (xs : List X) (n : ℕ) → n < length xs → (x : X) × (slice_get xs n ≡ Some x)
slice_get_below [] n h = absurd (omega arith)
slice_get_below (y ∷ ys) zero h = (y, refl)
slice_get_below (y ∷ ys) (suc n) h = slice_get_below ys n (omega arith)

found_step : {X : Type 0} (wanted : X → Bool) (b : Bool) (y x : X) (ys : List X) → wanted y ≡ b → (find wanted ys ≡ Some x → wanted x ≡ true) → find wanted (y ∷ ys) ≡ Some x → wanted x ≡ true
found_step wanted true y x ys is later at = subst (λ z. wanted z ≡ true) (same_Some y x (rw is at at)) is
found_step wanted false y x ys is later at = later (rw is at at)

-- what is found is as it was wanted
pub found_is : {X : Type 0} (wanted : X → Bool) (xs : List X) (x : X) → find wanted xs ≡ Some x → wanted x ≡ true
found_is wanted [] x at = absurd (none-some x at)
found_is wanted (y ∷ ys) x at = found_step wanted (wanted y) y x ys refl (found_is wanted ys x) at

find_step : {X : Type 0} (wanted test : X → Bool) (b : Bool) (y x : X) (ys : List X) → wanted y ≡ b → test y ≡ true → (find wanted ys ≡ Some x → test x ≡ true) → find wanted (y ∷ ys) ≡ Some x → test x ≡ true
find_step wanted test true y x ys is here later at = subst (λ z. test z ≡ true) (same_Some y x (rw is at at)) here
find_step wanted test false y x ys is here later at = later (rw is at at)

-- a test of all items holds of the one that is found
pub find_passes : {X : Type 0} (wanted test : X → Bool) (xs : List X) (x : X) → list_all test xs ≡ true → find wanted xs ≡ Some x → test x ≡ true
find_passes wanted test [] x all at = absurd (none-some x at)
find_passes wanted test (y ∷ ys) x all at =
    let both = and_both (test y) (list_all test ys) all in
    find_step wanted test (wanted y) y x ys refl both.0 (find_passes wanted test ys x both.1) at
