-- Shapes of the jobs of a book that keeps what every farm keeps.
use Rattle.std.specs.Prelude.{ℕ, ◌≡◌, List, Some, slice_get}
use Rattle.farm_types.specs.declared.rows.LayerRow.{LayerRow}
use Rattle.farm_types.specs.Jobs.{JobLists}
use Rattle.farm_types.specs.Kept.{KeepsJobs}

-- the book is that of a farm that keeps its jobs
pub record IsKeptBook (b : JobLists) : Type 0 where
  pub shows : ℕ
  pub keeps : KeepsJobs b shows

-- the layers are among those of the book
abbrev pub AreLayers : JobLists → List LayerRow → Type 0
AreLayers b layers = (n : ℕ) (l : LayerRow) → slice_get layers n ≡ Some l → (m : ℕ) × (slice_get b.layers m ≡ Some l)
