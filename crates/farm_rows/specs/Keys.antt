-- Keys as numbers, and changes that change nothing.
use Rattle.std.specs.Prelude.{ℕ, ◌≡◌, ◌==◌, ◌&&◌, Bool, false, List, [], ◌∷◌, ◌++◌, is_some, Option, Some, if◌then◌else◌}
use Rattle.std.specs.List.{list_any}
use Rattle.farm_rows.specs.declared.farm_row.FarmRow.{FarmRow}
use Rattle.farm_rows.specs.declared.row_key.RowKey.{RowKey}
use Rattle.farm_rows.specs.declared.row_key.RowKey.TheVariants as key
use Rattle.farm_rows.specs.declared.row_change.RowChange.{RowChange}
use Rattle.farm_rows.specs.declared.row_change.RowChange.TheVariants as change

-- the number of the key's kind, and the numbers that it has
abbrev pub key_parts : RowKey → ℕ × ℕ × ℕ
key_parts key.Head = (0, 0, 0)
key_parts (key.Show show) = (1, show, 0)
key_parts (key.Alloc alloc) = (2, alloc, 0)
key_parts (key.Sub sub) = (3, sub, 0)
key_parts (key.Host host) = (4, host, 0)
key_parts (key.Job job) = (5, job, 0)
key_parts (key.Layer job place) = (6, job, place)
key_parts (key.Frame slot) = (7, slot, 0)
key_parts (key.Depend depend) = (8, depend, 0)
key_parts (key.Met depend position) = (9, depend, position)
key_parts (key.Limit limit) = (10, limit, 0)

abbrev pub is_parts : ℕ × ℕ × ℕ → ℕ × ℕ × ℕ → Bool
is_parts a b = (a.0 == b.0 && a.1 == b.1) && a.2 == b.2

abbrev pub has_parts : List (ℕ × ℕ × ℕ) → ℕ × ℕ × ℕ → Bool
has_parts seen parts = list_any (is_parts parts) seen

abbrev pub with_parts : List (ℕ × ℕ × ℕ) → ℕ × ℕ × ℕ → List (ℕ × ℕ × ℕ)
with_parts seen parts = if has_parts seen parts then seen else seen ++ parts ∷ []

-- the row of its key is as the change makes it
abbrev pub ChangesNothing : RowChange → Option FarmRow → Type 0
ChangesNothing (change.Put r) old = old ≡ Some r
ChangesNothing (change.Delete gone) old = is_some old ≡ false
