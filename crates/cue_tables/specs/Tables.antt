-- A table as text: a line for its head and one for each row, in columns that are as wide as their longest cell.
use Rattle.std.specs.Prelude.{◌≡◌, Bool, ℕ, cond, ◌-◌, max, List, [], ◌∷◌, ◌++◌, chars, length, map, replicate}
use Rattle.std.specs.List.{All}

-- how many characters a cell has
abbrev pub width_of : List ℕ → ℕ
width_of cell = length (chars cell)

-- column by column the greater width
abbrev pub wider : List ℕ → List ℕ → List ℕ
wider [] others = others
wider (width ∷ widths) [] = width ∷ widths
wider (width ∷ widths) (other ∷ others) = max width other ∷ wider widths others

-- the width of each column of these lines of cells
abbrev pub widths_of : List (List (List ℕ)) → List ℕ
widths_of [] = []
widths_of (line ∷ lines) = wider (map width_of line) (widths_of lines)

-- a cell, filled up with spaces, and the two that part it from the next column
abbrev pub padded : ℕ → List ℕ → List ℕ
padded width cell = cell ++ replicate (width - width_of cell) 32 ++ 32 ∷ 32 ∷ []

-- a cell, filled up unless it is its line's last
abbrev pub cell_text : Bool → ℕ → List ℕ → List ℕ
cell_text is_last width cell = cond is_last cell (padded width cell)

-- a line of cells; the last one isn't filled up
abbrev pub line_text : List ℕ → List (List ℕ) → List ℕ
line_text widths [] = []
line_text widths (cell ∷ []) = cell
line_text [] (cell ∷ next ∷ cells) = cell ++ line_text [] (next ∷ cells)
line_text (width ∷ widths) (cell ∷ next ∷ cells) = padded width cell ++ line_text widths (next ∷ cells)

-- the lines, each with a newline at its end
abbrev pub lines_text : List ℕ → List (List (List ℕ)) → List ℕ
lines_text widths [] = []
lines_text widths (line ∷ lines) = line_text widths line ++ 10 ∷ lines_text widths lines

-- the head and the rows
abbrev pub table_text : List (List ℕ) → List (List (List ℕ)) → List ℕ
table_text head rows = lines_text (widths_of (head ∷ rows)) (head ∷ rows)

-- each row has so many cells
abbrev pub HasCells : ℕ → List (List (List ℕ)) → Type 0
HasCells cells rows = All (λ (row : List (List ℕ)). length row ≡ cells) rows

-- each row has as many cells as the head
abbrev pub FitsHead : List (List ℕ) → List (List (List ℕ)) → Type 0
FitsHead head rows = HasCells (length head) rows
