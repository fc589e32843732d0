-- The rows of depends and their marks, as they are told number by number.
use Rattle.std.specs.Prelude.{ℕ, Bool, List, [], ◌∷◌, ◌++◌, map, filter, nat_lt, Option, None, Some}
use Rattle.std.specs.List.{list_any}
use Rattle.farm_types.specs.declared.depend.DependRow.{DependRow}
use Rattle.farm_types.specs.declared.depend.MetRow.{MetRow}
use Rattle.farm_types.specs.Rising.{depend_key}
use Rattle.farm_rows.specs.declared.farm_row.FarmRow.{FarmRow}
use Rattle.farm_rows.specs.declared.farm_row.FarmRow.TheVariants as row
use Rattle.depend_graph.specs.Graph.{Watch, groups_at, is_mark}
use Rattle.depend_book.specs.Book.{DependLists, mark_of, marks_of, row_in}

-- the numbers above one
abbrev pub numbers_above : ℕ → List DependRow → List ℕ
numbers_above after rows = map depend_key (filter (λ (d : DependRow). nat_lt after d.depend) rows)

-- the row of a depend, where it is there
abbrev pub row_told : Option DependRow → List FarmRow
row_told None = []
row_told (Some d) = row.Depend d ∷ []

-- the rows of the depends of these numbers
abbrev pub rows_told : DependLists → List ℕ → List FarmRow
rows_told b [] = []
rows_told b (n ∷ ns) = row_told (row_in b n) ++ rows_told b ns

-- the mark is among those of the met groups
abbrev pub is_told : List Watch → MetRow → Bool
is_told watches m = list_any (is_mark m.depend m.position) (marks_of watches)

-- the marks of a depend's groups, those that are there
abbrev pub marks_there : List Watch → ℕ → List MetRow
marks_there watches n = filter (is_told watches) (map (mark_of n) (groups_at watches n))

-- the marks of the depends of these numbers
abbrev pub marks_told : List Watch → List ℕ → List FarmRow
marks_told watches [] = []
marks_told watches (n ∷ ns) = map row.Met (marks_there watches n) ++ marks_told watches ns

-- the rows of all depends, and their marks
abbrev pub depend_rows : DependLists → List FarmRow
depend_rows b = map row.Depend b.rows ++ map row.Met (marks_of b.graph.depends)

-- ---- rows by kind

-- the depends among rows
abbrev pub depend_listed : FarmRow → List DependRow
depend_listed (row.Depend d) = d ∷ []
depend_listed other = []

abbrev pub depends_listed : List FarmRow → List DependRow
depends_listed [] = []
depends_listed (r ∷ rs) = depend_listed r ++ depends_listed rs

-- the marks among rows
abbrev pub mark_listed : FarmRow → List MetRow
mark_listed (row.Met m) = m ∷ []
mark_listed other = []

abbrev pub marks_listed : List FarmRow → List MetRow
marks_listed [] = []
marks_listed (r ∷ rs) = mark_listed r ++ marks_listed rs
