-- A table of rows, in any order.
use Rattle.std.specs.Prelude.{ℕ, List}
use Rattle.std.specs.FinMap.{from_entries}
use Rattle.farm_keeper.specs.Rows.{Key, Rows}

-- the rows that the entries are; the first counts where two have one kind and id
abbrev pub rows_in : List (Key × List ℕ) → Rows
rows_in entries = from_entries entries
