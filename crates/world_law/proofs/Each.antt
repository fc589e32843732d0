-- What holds of each item of a list, and the places of items.
use Rattle.std.proofs.Common.{◌≡◌, ◌≢◌, ℕ, suc, zero, Bool, true, false, cond, List, [], ◌∷◌, ◌++◌, map, take, length, Option, None, Some, refl, sym, subst, ◌∙◌, ◌⊎◌, inl, inr}
use Rattle.std.specs.List.{AllByRecursion, cons_option, filter, filter_map, slice_get, slice_set}
use Rattle.std.proofs.lemmas.Option.{none-some, same_Some}
use Rattle.farm_types.proofs.Changed.{places, slice_get-set_other, slice_get-set_same}
use Rattle.world_law.specs.Among.{Has}

-- ---- each item

pub each_from : {X : Type 0} (P Q : X → Type 0) → ((x : X) → P x → Q x) → (xs : List X) → AllByRecursion P xs → AllByRecursion Q xs
each_from P Q goes [] all = tt
each_from P Q goes (x ∷ xs) all = (goes x all.0, each_from P Q goes xs all.1)

pub each_append : {X : Type 0} (P : X → Type 0) (xs ys : List X) → AllByRecursion P xs → AllByRecursion P ys → AllByRecursion P (xs ++ ys)
each_append P [] ys first second = second
each_append P (x ∷ xs) ys first second = (first.0, each_append P xs ys first.1 second)

pub each_filter : {X : Type 0} (P : X → Type 0) (keep : X → Bool) (xs : List X) → AllByRecursion P xs → AllByRecursion P (filter keep xs)
each_filter P keep [] all = tt
each_filter P keep (x ∷ xs) all = by (keep x) (each_filter P keep xs all.1)
  where
    by : (b : Bool) → AllByRecursion P (filter keep xs) → AllByRecursion P (cond b (x ∷ filter keep xs) (filter keep xs))
    by true later = (all.0, later)
    by false later = later

pub each_map : {X Y : Type 0} (P : Y → Type 0) (make : X → Y) (xs : List X) → AllByRecursion (λ (x : X). P (make x)) xs → AllByRecursion P (map make xs)
each_map P make [] all = tt
each_map P make (x ∷ xs) all = (all.0, each_map P make xs all.1)

pub each_of_map : {X Y : Type 0} (P : Y → Type 0) (make : X → Y) (xs : List X) → AllByRecursion P (map make xs) → AllByRecursion (λ (x : X). P (make x)) xs
each_of_map P make [] all = tt
each_of_map P make (x ∷ xs) all = (all.0, each_of_map P make xs all.1)

pub each_take : {X : Type 0} (P : X → Type 0) (n : ℕ) (xs : List X) → AllByRecursion P xs → AllByRecursion P (take n xs)
each_take P zero xs all = tt
each_take P (suc n) [] all = tt
each_take P (suc n) (x ∷ xs) all = (all.0, each_take P n xs all.1)

found_by : {Y : Type 0} (Q : Y → Type 0) (o : Option Y) (rest : List Y) → ((y : Y) → o ≡ Some y → Q y) → AllByRecursion Q rest → AllByRecursion Q (cons_option o rest)
found_by Q None rest goes later = later
found_by Q (Some y) rest goes later = (goes y refl, later)

pub each_found : {X Y : Type 0} (P : X → Type 0) (Q : Y → Type 0) (read : X → Option Y) → ((x : X) (y : Y) → P x → read x ≡ Some y → Q y) → (xs : List X) → AllByRecursion P xs
    → AllByRecursion Q (filter_map read xs)
each_found P Q read goes [] all = tt
each_found P Q read goes (x ∷ xs) all = found_by Q (read x) (filter_map read xs) (λ y is. goes x y all.0 is) (each_found P Q read goes xs all.1)

pub each_both : {X : Type 0} (P Q : X → Type 0) (xs : List X) → AllByRecursion P xs → AllByRecursion Q xs → AllByRecursion (λ (x : X). P x × Q x) xs
each_both P Q [] first second = tt
each_both P Q (x ∷ xs) first second = ((first.0, second.0), each_both P Q xs first.1 second.1)

-- ---- places

pub each_at : {X : Type 0} (P : X → Type 0) (xs : List X) → AllByRecursion P xs → (n : ℕ) (x : X) → slice_get xs n ≡ Some x → P x
each_at P [] all n x at = absurd (none-some x at)
each_at P (y ∷ ys) all zero x at = subst P (same_Some y x at) all.0
each_at P (y ∷ ys) all (suc n) x at = each_at P ys all.1 n x at

pub each_has : {X : Type 0} (P : X → Type 0) (xs : List X) → AllByRecursion P xs → (x : X) → Has xs x → P x
each_has P xs all x has = each_at P xs all has.0 x has.1

pub has_each : {X : Type 0} (P : X → Type 0) (xs : List X) → ((n : ℕ) (x : X) → slice_get xs n ≡ Some x → P x) → AllByRecursion P xs
has_each P [] at = tt
has_each P (x ∷ xs) at = (at 0 x refl, has_each P xs (λ n y there. at (suc n) y there))

-- each item of a list stands in it
pub all_has : {X : Type 0} (xs : List X) → AllByRecursion (Has xs) xs
all_has xs = has_each (Has xs) xs (λ n x there. (n, there))

pub has_left : {X : Type 0} (xs ys : List X) (n : ℕ) (x : X) → slice_get xs n ≡ Some x → slice_get (xs ++ ys) n ≡ Some x
has_left [] ys n x at = absurd (none-some x at)
has_left (y ∷ xs) ys zero x at = at
has_left (y ∷ xs) ys (suc n) x at = has_left xs ys n x at

pub has_last : {X : Type 0} (xs : List X) (x : X) → slice_get (xs ++ x ∷ []) (length xs) ≡ Some x
has_last [] x = refl
has_last (y ∷ xs) x = has_last xs x

-- what stands in two lists stands in one of them
pub has_of : {X : Type 0} (xs ys : List X) (n : ℕ) (x : X) → slice_get (xs ++ ys) n ≡ Some x → (slice_get xs n ≡ Some x) ⊎ Has ys x
has_of [] ys n x at = inr (n, at)
has_of (y ∷ xs) ys zero x at = inl at
has_of (y ∷ xs) ys (suc n) x at = has_of xs ys n x at

pub has_in : {X : Type 0} (xs ys : List X) (x : X) → Has (xs ++ ys) x → Has xs x ⊎ Has ys x
has_in xs ys x has = by (has_of xs ys has.0 x has.1)
  where
    by : (slice_get xs has.0 ≡ Some x) ⊎ Has ys x → Has xs x ⊎ Has ys x
    by (inl old) = inl (has.0, old)
    by (inr new) = inr new

pub has_one : {X : Type 0} (x y : X) → Has (x ∷ []) y → x ≡ y
has_one x y (zero, at) = same_Some x y at
has_one x y (suc n, at) = absurd (none-some y at)

-- an item of a list in which one was set
pub set_of : {X : Type 0} (xs : List X) (i : ℕ) (was new : X) → slice_get xs i ≡ Some was → (n : ℕ) (x : X) → slice_get (slice_set xs i new) n ≡ Some x
    → ((n ≡ i) × (x ≡ new)) ⊎ ((n ≢ i) × (slice_get xs n ≡ Some x))
set_of xs i was new there n x at = by (places n i)
  where
    by : (n ≡ i) ⊎ (n ≢ i) → ((n ≡ i) × (x ≡ new)) ⊎ ((n ≢ i) × (slice_get xs n ≡ Some x))
    by (inl e) =
        inl (e, same_Some x new (sym (subst (λ (k : ℕ). slice_get (slice_set xs i new) k ≡ Some x) e at) ∙ slice_get-set_same xs i was new there))
    by (inr apart) = inr (apart, sym (slice_get-set_other xs i n new apart) ∙ at)
