-- Which places are in a set: a list of marks, one for each place.
use Rattle.std.specs.Prelude.{ℕ, ◌+◌, Bool, true, false, List, [], ◌∷◌, drop, Option, None, Some}

-- the first marked place, where the marks are those from a place on
abbrev pub first_in : ℕ → List Bool → Option ℕ
first_in place [] = None
first_in place (true ∷ marks) = Some place
first_in place (false ∷ marks) = first_in (place + 1) marks

-- the first place of the set at a place or after it
abbrev pub first_from : List Bool → ℕ → Option ℕ
first_from marks from = first_in from (drop from marks)
