-- What is found for a frame.
use Rattle.std.proofs.Common.{◌≡◌, ℕ, suc, zero, Bool, true, false, cond, ◌||◌, List, [], ◌∷◌, map, Some, is_some, option_map, refl}
use Rattle.std.specs.List.{find, list_any, slice_get}

found_by : {X : Type 0} (b : Bool) (x : X) (test : X → Bool) (xs : List X) → is_some (find test xs) ≡ list_any test xs → is_some (cond b (Some x) (find test xs)) ≡ (b || list_any test xs)
found_by true x test xs rest = refl
found_by false x test xs rest = rest

-- something is found where something passes
pub some_found : {X : Type 0} (test : X → Bool) (xs : List X) → is_some (find test xs) ≡ list_any test xs
some_found test [] = refl
some_found test (x ∷ xs) = found_by (test x) x test xs (some_found test xs)

pub got_mapped : {X Y : Type 0} (f : X → Y) (xs : List X) (n : ℕ) → slice_get (map f xs) n ≡ option_map f (slice_get xs n)
got_mapped f [] n = refl
got_mapped f (x ∷ xs) zero = refl
got_mapped f (x ∷ xs) (suc n) = got_mapped f xs n
