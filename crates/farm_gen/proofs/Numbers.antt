-- The numbers of a layer's frames, one after the other.
use Rattle.std.proofs.Common.{◌≡◌, ℕ, suc, ◌+◌, ◌-◌, ◌≤◌, List, [], ◌∷◌, ◌++◌, ℤ, pos, to_z, w32, sym, ap, ◌∙◌, append_assoc, arith}
use Rattle.std.proofs.lemmas.Int.{to_z_pos}
use Rattle.farm_gen.specs.Load.{numbers_from}

-- a number more, and those behind it
more : (xs : List ℤ) (first count rest : ℕ) → count ≡ suc rest
    → (xs ++ pos first ∷ []) ++ numbers_from (first + 1) rest ≡ xs ++ numbers_from first count
more xs first count rest is =
    append_assoc xs (pos first ∷ []) (numbers_from (first + 1) rest) ∙ ap (λ n. xs ++ numbers_from first n) (sym is)

-- the next number of a loop up to n, as a signed one
pub number_more : (xs : List ℤ) (number n : ℕ) → number ≤ n → n ≤ 5000
    → (xs ++ to_z w32 number ∷ []) ++ numbers_from (number + 1) ((n + 1) - (number + 1)) ≡ xs ++ numbers_from number ((n + 1) - number)
number_more xs number n at most =
    ap (λ z. (xs ++ z ∷ []) ++ numbers_from (number + 1) ((n + 1) - (number + 1))) (to_z_pos w32 number (omega arith))
    ∙ more xs number ((n + 1) - number) ((n + 1) - (number + 1)) (omega arith)
