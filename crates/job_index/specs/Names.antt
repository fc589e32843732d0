-- Numbers by name.
use Rattle.std.specs.Prelude.{ℕ, List, [], ◌∷◌, bytes_eq, Option, None, Some, if◌then◌else◌}

-- names with the numbers of their jobs, and how many more there is memory for at least
pub record NameList : Type 0 where
  pub pairs : List (List ℕ × ℕ)
  pub room : ℕ

-- the number of the first name that is equal
abbrev pub number_of : List ℕ → List (List ℕ × ℕ) → Option ℕ
number_of name [] = None
number_of name (p ∷ ps) = if bytes_eq name p.0 then Some p.1 else number_of name ps
