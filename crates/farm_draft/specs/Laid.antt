-- Rows that are laid over a list, each at its number.
use Rattle.std.specs.Prelude.{ℕ, suc, List, [], ◌∷◌, Option, None, Some}

-- what is laid over a row is put into it
abbrev pub row_over : {P X : Type 0} → (P → X → X) → Option P → X → X
row_over put None x = x
row_over put (Some p) x = put p x

-- the rows, numbered from a place
abbrev pub laid_from : {P X : Type 0} → (P → X → X) → ℕ → (ℕ → Option P) → List X → List X
laid_from put n over [] = []
laid_from put n over (x ∷ xs) = row_over put (over n) x ∷ laid_from put (suc n) over xs

abbrev pub laid : {P X : Type 0} → (P → X → X) → (ℕ → Option P) → List X → List X
laid put over xs = laid_from put 0 over xs
