-- Two lists side by side, related item by item, and lists that are read alike at each place.
use Rattle.std.proofs.Common.{◌≡◌, ℕ, zero, suc, ◌≤◌, Bool, true, false, cond, ◌&&◌, ◌||◌, List, [], ◌∷◌, map, length, Option, Some, None, refl, sym, ap, subst, ◌∙◌, option_map, arith}
use Rattle.std.specs.List.{AllZip, filter, find, list_all, list_any, slice_get, sum_by}
use Rattle.std.proofs.lemmas.List.Sums.{sum_by-cons}
use Rattle.std.proofs.lemmas.Bool.{or_left, or_right}
use Rattle.std.proofs.lemmas.Option.{none-some, same_Some}

pub or_none : (b : Bool) → (b || false) ≡ b
or_none true = refl
or_none false = refl

-- ---- one list

pub nil-cons : {X : Type 0} (x : X) (xs : List X) → [] ≡ x ∷ xs → ⊥
nil-cons x xs e = cc

pub same_head : {X : Type 0} (x y : X) (xs ys : List X) → x ∷ xs ≡ y ∷ ys → x ≡ y
same_head x y xs ys e = cc

pub same_tail : {X : Type 0} (x y : X) (xs ys : List X) → x ∷ xs ≡ y ∷ ys → xs ≡ ys
same_tail x y xs ys e = cc

-- lists with the same at each place are one
pub same_places : {X : Type 0} (xs ys : List X) → ((i : ℕ) → slice_get xs i ≡ slice_get ys i) → xs ≡ ys
same_places [] [] h = refl
same_places [] (y ∷ ys) h = absurd (none-some y (h 0))
same_places (x ∷ xs) [] h = absurd (none-some x (sym (h 0)))
same_places (x ∷ xs) (y ∷ ys) h = λ i. same_Some x y (h 0) i ∷ same_places xs ys (λ k. h (suc k)) i

pub option_map_same : {X : Type 0} (o : Option X) → option_map (λ (x : X). x) o ≡ o
option_map_same None = refl
option_map_same (Some x) = refl

-- two changes in turn
pub map_in_turn : {X Y Z : Type 0} (f : Y → Z) (g : X → Y) (h : X → Z) → ((x : X) → f (g x) ≡ h x) → (xs : List X) → map f (map g xs) ≡ map h xs
map_in_turn f g h same [] = refl
map_in_turn f g h same (x ∷ xs) = λ i. same x i ∷ map_in_turn f g h same xs i

-- a change that leaves each item
pub map_kept : {X : Type 0} (f : X → X) → ((x : X) → f x ≡ x) → (xs : List X) → map f xs ≡ xs
map_kept f same [] = refl
map_kept f same (x ∷ xs) = λ i. same x i ∷ map_kept f same xs i

pub list_any-alike : {X : Type 0} (p q : X → Bool) (xs : List X) → ((n : ℕ) (x : X) → slice_get xs n ≡ Some x → p x ≡ q x) → list_any p xs ≡ list_any q xs
list_any-alike p q [] same = refl
list_any-alike p q (x ∷ xs) same = λ i. same 0 x refl i || list_any-alike p q xs (λ n y at. same (suc n) y at) i

-- what stands at a place passes
pub list_any-at : {X : Type 0} (p : X → Bool) (xs : List X) (n : ℕ) (x : X) → slice_get xs n ≡ Some x → p x ≡ true → list_any p xs ≡ true
list_any-at p [] n x at is = absurd (none-some x at)
list_any-at p (y ∷ ys) zero x at is = or_left (p y) (list_any p ys) (ap p (same_Some y x at) ∙ is)
list_any-at p (y ∷ ys) (suc n) x at is = or_right (p y) (list_any p ys) (list_any-at p ys n x at is)

-- a filter that keeps none
pub filter-none : {X : Type 0} (p : X → Bool) (xs : List X) → ((n : ℕ) (x : X) → slice_get xs n ≡ Some x → p x ≡ false) → filter p xs ≡ []
filter-none p [] none = refl
filter-none p (x ∷ xs) none = ap (λ (b : Bool). cond b (x ∷ filter p xs) (filter p xs)) (none 0 x refl) ∙ filter-none p xs (λ n y at. none (suc n) y at)

-- a filter after a change
pub filter-map : {X Y : Type 0} (change : X → Y) (p : Y → Bool) (q : X → Bool) (xs : List X) → ((n : ℕ) (x : X) → slice_get xs n ≡ Some x → p (change x) ≡ q x) → filter p (map change xs) ≡ map change (filter q xs)
filter-map change p q [] same = refl
filter-map {X} {Y} change p q (x ∷ xs) same =
    ap (λ (b : Bool). cond b (change x ∷ filter p (map change xs)) (filter p (map change xs))) (same 0 x refl)
    ∙ (ap (λ (ys : List Y). cond (q x) (change x ∷ ys) ys) (filter-map change p q xs (λ n y at. same (suc n) y at)) ∙ kept (q x))
  where
    kept : (b : Bool) → cond b (change x ∷ map change (filter q xs)) (map change (filter q xs)) ≡ map change (cond b (x ∷ filter q xs) (filter q xs))
    kept true = refl
    kept false = refl

found_place : {X : Type 0} (p : X → Bool) (y x : X) (ys : List X) (b : Bool) → (find p ys ≡ Some x → (i : ℕ) × (slice_get ys i ≡ Some x)) → cond b (Some y) (find p ys) ≡ Some x → (i : ℕ) × (slice_get (y ∷ ys) i ≡ Some x)
found_place p y x ys true rest here = (0, here)
found_place p y x ys false rest later = let there = rest later in (suc there.0, there.1)

-- the place of what is found
pub find_place : {X : Type 0} (p : X → Bool) (xs : List X) (x : X) → find p xs ≡ Some x → (i : ℕ) × (slice_get xs i ≡ Some x)
find_place p [] x found = absurd (none-some x found)
find_place p (y ∷ ys) x found = found_place p y x ys (p y) (λ later. find_place p ys x later) found

-- ---- two lists

module _ {X Y : Type 0} (R : X → Y → Type 0) where
  -- beside each item of the first list
  pub zip_right : (xs : List X) (ys : List Y) → AllZip R xs ys → (i : ℕ) (x : X) → slice_get xs i ≡ Some x → (y : Y) × (slice_get ys i ≡ Some y) × R x y
  zip_right [] ys zip i x at = absurd (none-some x at)
  zip_right (x ∷ xs) [] zip i z at = absurd zip
  zip_right (x ∷ xs) (y ∷ ys) zip zero z at = (y, refl, subst (λ (w : X). R w y) (same_Some x z at) zip.0)
  zip_right (x ∷ xs) (y ∷ ys) zip (suc i) z at = zip_right xs ys zip.1 i z at

  -- beside each item of the second
  pub zip_left : (xs : List X) (ys : List Y) → AllZip R xs ys → (i : ℕ) (y : Y) → slice_get ys i ≡ Some y → (x : X) × (slice_get xs i ≡ Some x) × R x y
  zip_left [] [] zip i y at = absurd (none-some y at)
  zip_left [] (z ∷ zs) zip i y at = absurd zip
  zip_left (x ∷ xs) [] zip i y at = absurd zip
  zip_left (x ∷ xs) (z ∷ zs) zip zero y at = (x, refl, subst (R x) (same_Some z y at) zip.0)
  zip_left (x ∷ xs) (z ∷ zs) zip (suc i) y at = zip_left xs zs zip.1 i y at

  -- the two at one place
  pub zip_at : (xs : List X) (ys : List Y) → AllZip R xs ys → (i : ℕ) (x : X) (y : Y) → slice_get xs i ≡ Some x → slice_get ys i ≡ Some y → R x y
  zip_at xs ys zip i x y left right =
      let found = zip_right xs ys zip i x left in
      subst (R x) (same_Some found.0 y (sym found.1 ∙ right)) found.2

  pub zip_from : (xs : List X) (ys : List Y) → length xs ≡ length ys → ((i : ℕ) (x : X) (y : Y) → slice_get xs i ≡ Some x → slice_get ys i ≡ Some y → R x y) → AllZip R xs ys
  zip_from [] [] same each = tt
  zip_from [] (y ∷ ys) same each = absurd (omega arith)
  zip_from (x ∷ xs) [] same each = absurd (omega arith)
  zip_from (x ∷ xs) (y ∷ ys) same each = (each 0 x y refl refl, zip_from xs ys (omega arith) (λ i z w left right. each (suc i) z w left right))

  pub zip_length : (xs : List X) (ys : List Y) → AllZip R xs ys → length xs ≡ length ys
  zip_length [] [] zip = refl
  zip_length [] (y ∷ ys) zip = absurd zip
  zip_length (x ∷ xs) [] zip = absurd zip
  zip_length (x ∷ xs) (y ∷ ys) zip = ap suc (zip_length xs ys zip.1)

  -- tests that agree beside one another
  pub zip_all-alike : (p : X → Bool) (q : Y → Bool) (xs : List X) (ys : List Y) → AllZip R xs ys
      → ((i : ℕ) (x : X) (y : Y) → slice_get xs i ≡ Some x → slice_get ys i ≡ Some y → R x y → p x ≡ q y) → list_all p xs ≡ list_all q ys
  zip_all-alike p q [] [] zip same = refl
  zip_all-alike p q [] (y ∷ ys) zip same = absurd zip
  zip_all-alike p q (x ∷ xs) [] zip same = absurd zip
  zip_all-alike p q (x ∷ xs) (y ∷ ys) zip same =
      λ k. same 0 x y refl refl zip.0 k && zip_all-alike p q xs ys zip.1 (λ i z w left right. same (suc i) z w left right) k

  -- weights that agree, or are no more
  pub zip_sum-alike : (p : X → ℕ) (q : Y → ℕ) (xs : List X) (ys : List Y) → AllZip R xs ys
      → ((i : ℕ) (x : X) (y : Y) → slice_get xs i ≡ Some x → slice_get ys i ≡ Some y → R x y → p x ≡ q y) → sum_by p xs ≡ sum_by q ys
  zip_sum-alike p q [] [] zip same = refl
  zip_sum-alike p q [] (y ∷ ys) zip same = absurd zip
  zip_sum-alike p q (x ∷ xs) [] zip same = absurd zip
  zip_sum-alike p q (x ∷ xs) (y ∷ ys) zip same =
      omega (arith, sum_by-cons p x xs, sum_by-cons q y ys, same 0 x y refl refl zip.0, zip_sum-alike p q xs ys zip.1 (λ i z w left right. same (suc i) z w left right))

  pub zip_sum-less : (p : X → ℕ) (q : Y → ℕ) → ((x : X) (y : Y) → R x y → q y ≤ p x) → (xs : List X) (ys : List Y) → AllZip R xs ys → sum_by q ys ≤ sum_by p xs
  zip_sum-less p q less [] [] zip = omega arith
  zip_sum-less p q less [] (y ∷ ys) zip = absurd zip
  zip_sum-less p q less (x ∷ xs) [] zip = absurd zip
  zip_sum-less p q less (x ∷ xs) (y ∷ ys) zip =
      omega (arith, sum_by-cons p x xs, sum_by-cons q y ys, less x y zip.0, zip_sum-less p q less xs ys zip.1)

  -- what is read alike
  pub zip_map-alike : {Z : Type 0} (f : X → Z) (g : Y → Z) → ((x : X) (y : Y) → R x y → f x ≡ g y) → (xs : List X) (ys : List Y) → AllZip R xs ys → map f xs ≡ map g ys
  zip_map-alike f g same [] [] zip = refl
  zip_map-alike f g same [] (y ∷ ys) zip = absurd zip
  zip_map-alike f g same (x ∷ xs) [] zip = absurd zip
  zip_map-alike f g same (x ∷ xs) (y ∷ ys) zip = λ i. same x y zip.0 i ∷ zip_map-alike f g same xs ys zip.1 i

-- a list beside what is made of its items
pub zip_made : {X Y : Type 0} (R : X → Y → Type 0) (f : X → Y) → ((x : X) → R x (f x)) → (xs : List X) → AllZip R xs (map f xs)
zip_made R f each [] = tt
zip_made R f each (x ∷ xs) = (each x, zip_made R f each xs)

-- lists that are made of two lists side by side
pub zip_changed : {X Y V W : Type 0} (R : X → Y → Type 0) (S : V → W → Type 0) (f : X → V) (g : Y → W) (xs : List X) (ys : List Y) → AllZip R xs ys
    → ((i : ℕ) (x : X) (y : Y) → slice_get xs i ≡ Some x → slice_get ys i ≡ Some y → R x y → S (f x) (g y)) → AllZip S (map f xs) (map g ys)
zip_changed R S f g [] [] zip each = tt
zip_changed R S f g [] (y ∷ ys) zip each = absurd zip
zip_changed R S f g (x ∷ xs) [] zip each = absurd zip
zip_changed R S f g (x ∷ xs) (y ∷ ys) zip each =
    (each 0 x y refl refl zip.0, zip_changed R S f g xs ys zip.1 (λ i v w left right. each (suc i) v w left right))

-- two lists that are made of one
pub zip_both : {X V W : Type 0} (S : V → W → Type 0) (f : X → V) (g : X → W) (xs : List X) → ((i : ℕ) (x : X) → slice_get xs i ≡ Some x → S (f x) (g x)) → AllZip S (map f xs) (map g xs)
zip_both S f g [] each = tt
zip_both S f g (x ∷ xs) each = (each 0 x refl, zip_both S f g xs (λ i y at. each (suc i) y at))

-- a list beside what is made of the items of another
pub zip_beside : {X Y W : Type 0} (R : X → Y → Type 0) (S : X → W → Type 0) (g : Y → W) (xs : List X) (ys : List Y) → AllZip R xs ys
    → ((i : ℕ) (x : X) (y : Y) → slice_get xs i ≡ Some x → slice_get ys i ≡ Some y → R x y → S x (g y)) → AllZip S xs (map g ys)
zip_beside R S g [] [] zip each = tt
zip_beside R S g [] (y ∷ ys) zip each = absurd zip
zip_beside R S g (x ∷ xs) [] zip each = absurd zip
zip_beside R S g (x ∷ xs) (y ∷ ys) zip each =
    (each 0 x y refl refl zip.0, zip_beside R S g xs ys zip.1 (λ i v w left right. each (suc i) v w left right))
