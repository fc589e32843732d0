-- What holds of each item of lists that are made of others.
use Rattle.std.proofs.Common.{◌≡◌, ℕ, zero, suc, ◌≤◌, Bool, true, false, cond, List, [], ◌∷◌, ◌++◌, length, length-append, map, take, Option, Some, None, refl, ap, arith}
use Rattle.std.specs.List.{All, filter_map, flat_map, slice_get, sum_by}
use Rattle.std.specs.Option.{IfSome}
use Rattle.std.proofs.lemmas.List.Elements.{All-cons, All-head, All-nil, All-tail}
use Rattle.std.proofs.lemmas.List.Sums.{sum_by-cons}
use Rattle.std.proofs.lemmas.Option.{none-some, same_Some}
use Rattle.std.specs.List.{cons_option}

-- one of two
pub if_one : {X : Type 0} (P : X → Type 0) (b : Bool) (x y : Option X) → IfSome x P → IfSome y P → IfSome (cond b x y) P
if_one P true x y first second = first
if_one P false x y first second = second

put_front : {Y : Type 0} (P : Y → Type 0) (o : Option Y) (ys : List Y) → IfSome o P → All P ys → All P (cons_option o ys)
put_front P None ys first rest = rest
put_front P (Some y) ys first rest = All-cons P y ys first rest

module _ {X Y : Type 0} (P : Y → Type 0) where
  pub mapped_each : (f : X → Y) (xs : List X) → ((n : ℕ) (x : X) → slice_get xs n ≡ Some x → P (f x)) → All P (map f xs)
  mapped_each f [] each = All-nil P
  mapped_each f (x ∷ xs) each = All-cons P (f x) (map f xs) (each 0 x refl) (mapped_each f xs (λ n y at. each (suc n) y at))

  pub found_each : (f : X → Option Y) (xs : List X) → ((n : ℕ) (x : X) → slice_get xs n ≡ Some x → IfSome (f x) P) → All P (filter_map f xs)
  found_each f [] each = All-nil P
  found_each f (x ∷ xs) each = put_front P (f x) (filter_map f xs) (each 0 x refl) (found_each f xs (λ n y at. each (suc n) y at))

module _ {Y : Type 0} (P : Y → Type 0) where
  pub joined_all : (xs ys : List Y) → All P xs → All P ys → All P (xs ++ ys)
  joined_all [] ys first second = second
  joined_all (x ∷ xs) ys first second = All-cons P x (xs ++ ys) (All-head P x xs first) (joined_all xs ys (All-tail P x xs first) second)

pub flat_each : {X Y : Type 0} (P : Y → Type 0) (f : X → List Y) (xs : List X) → ((n : ℕ) (x : X) → slice_get xs n ≡ Some x → All P (f x)) → All P (flat_map f xs)
flat_each P f [] each = All-nil P
flat_each P f (x ∷ xs) each = joined_all P (f x) (flat_map f xs) (each 0 x refl) (flat_each P f xs (λ n y at. each (suc n) y at))

-- ---- lengths

front_long : {Y : Type 0} (o : Option Y) (ys : List Y) → length (cons_option o ys) ≤ suc (length ys)
front_long None ys = omega arith
front_long (Some y) ys = omega arith

pub found_few : {X Y : Type 0} (f : X → Option Y) (xs : List X) → length (filter_map f xs) ≤ length xs
found_few f [] = omega arith
found_few f (x ∷ xs) = omega (arith, front_long (f x) (filter_map f xs), found_few f xs)

pub flat_few : {X Y : Type 0} (f : X → List Y) (most : X → ℕ) (xs : List X) → ((x : X) → length (f x) ≤ most x) → length (flat_map f xs) ≤ sum_by most xs
flat_few f most [] each = omega arith
flat_few f most (x ∷ xs) each = omega (arith, length-append (f x) (flat_map f xs), sum_by-cons most x xs, each x, flat_few f most xs each)

-- one of the terms of a sum
pub term_within : {X : Type 0} (weight : X → ℕ) (xs : List X) (n : ℕ) (x : X) → slice_get xs n ≡ Some x → weight x ≤ sum_by weight xs
term_within weight [] n x at = absurd (none-some x at)
term_within weight (y ∷ ys) zero x at = let same = ap weight (same_Some y x at) in omega (arith, same, sum_by-cons weight y ys)
term_within weight (y ∷ ys) (suc n) x at = omega (arith, term_within weight ys n x at, sum_by-cons weight y ys)

pub take_few : {X : Type 0} (n : ℕ) (xs : List X) → length (take n xs) ≤ n
take_few zero [] = omega arith
take_few zero (x ∷ xs) = omega arith
take_few (suc n) [] = omega arith
take_few (suc n) (x ∷ xs) = omega (arith, take_few n xs)
