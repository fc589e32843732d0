-- Lists of numbers in which each stands once.
use Rattle.std.specs.Prelude.{ℕ, suc, ℤ, Bool, if◌then◌else◌, List, [], ◌∷◌, ◌++◌, Option, Some, None}
use Rattle.std.specs.Option.{option_map, is_some}
use Rattle.std.specs.Ordering.{int_eq}

-- where in the list the number first stands, counted from 0
abbrev pub place_of : ℤ → List ℤ → Option ℕ
place_of z [] = None
place_of z (x ∷ xs) = if int_eq z x then Some 0 else option_map suc (place_of z xs)

-- the list has the number
abbrev pub has : List ℤ → ℤ → Bool
has xs z = is_some (place_of z xs)

-- the list with the number at its end, where it hasn't the number yet
abbrev pub with_number : List ℤ → ℤ → List ℤ
with_number xs z = if has xs z then xs else xs ++ z ∷ []

-- the list with each of the numbers, in their order
abbrev pub with_all : List ℤ → List ℤ → List ℤ
with_all xs [] = xs
with_all xs (z ∷ zs) = with_all (with_number xs z) zs

-- the numbers, the later ones of repeated numbers removed
abbrev pub without_repeats : List ℤ → List ℤ
without_repeats zs = with_all [] zs
