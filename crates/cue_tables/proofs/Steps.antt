-- One step of widening.
use Rattle.std.proofs.Common.{◌≡◌, ◌<◌, ◌+◌, ◌∙◌, ap, sym, refl, ℕ, List, [], ◌∷◌, drop, get_or, length, map, max, suc, arith}
use Rattle.std.proofs.lemmas.List.{drop_more}
use Rattle.cue_tables.specs.Tables.{wider, width_of, widths_of}

-- the greatest of three
max_max : (x y z : ℕ) → max (max x y) z ≡ max x (max y z)
max_max x y z = omega arith

-- the widths of two lines and of a third are those of one and of the two others
wider_wider : (xs ys zs : List ℕ) → wider (wider xs ys) zs ≡ wider xs (wider ys zs)
wider_wider [] ys zs = refl
wider_wider (x ∷ xs) [] zs = refl
wider_wider (x ∷ xs) (y ∷ ys) [] = refl
wider_wider (x ∷ xs) (y ∷ ys) (z ∷ zs) = rw (max_max x y z, wider_wider xs ys zs) refl

-- no line widens nothing
pub wider_none : (xs : List ℕ) → wider xs [] ≡ xs
wider_none [] = refl
wider_none (x ∷ xs) = refl

-- a line with as many cells makes no more columns
pub length-wider : (xs ys : List ℕ) → length ys ≡ length xs → length (wider xs ys) ≡ length xs
length-wider [] ys same = same
length-wider (x ∷ xs) [] same = refl
length-wider (x ∷ xs) (y ∷ ys) same = ap suc (length-wider xs ys (omega (arith, same)))

-- a row more: the first of those that are left, and the rest
pub row_more : (widths : List ℕ) (rows : List (List (List ℕ))) (i : ℕ) → i < length rows
    → wider (wider widths (map width_of (get_or rows i []))) (widths_of (drop (i + 1) rows)) ≡ wider widths (widths_of (drop i rows))
row_more widths rows i within =
    wider_wider widths (map width_of (get_or rows i [])) (widths_of (drop (i + 1) rows))
    ∙ ap (λ (left : List (List (List ℕ))). wider widths (widths_of left)) (sym (drop_more rows i [] within))
