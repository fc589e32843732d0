-- Depends that became satisfied, one after the other.
use Rattle.std.specs.Prelude.{ℕ, List, [], ◌∷◌, map}
use Rattle.farm_types.specs.declared.depend.DependRow.{DependRow}
use Rattle.farm_types.specs.DependActs.{satisfied_row}

abbrev pub satisfied_all : List ℕ → List DependRow → List DependRow
satisfied_all [] rows = rows
satisfied_all (n ∷ ns) rows = satisfied_all ns (map (satisfied_row n) rows)
