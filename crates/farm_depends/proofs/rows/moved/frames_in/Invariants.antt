use Rattle.std.proofs.Common.{◌≡◌, ℕ, nat_eq, Option, Some, drop}
use Rattle.indexmap.specs.IndexMap.{get}
use Rattle.farm_rows.specs.declared.farm_row.FarmRow.{FarmRow}
use Rattle.farm_rows.specs.declared.farm_row.FarmRow.TheVariants as row
use Rattle.farm_rows.specs.declared.frame_row.FrameRow.{FrameRow}
use Rattle.farm_rows.specs.declared.row_key.RowKey.TheVariants as key
use Rattle.farm_rows.specs.Changes.{row_after}
use Rattle.farm_depends.specs.FollowRows.{laid_over}
use Rattle.farm_depends.proofs.rows.moved.frames_in.Given as goal

abbrev pub invariant-loop-change : goal.invariant-loop-change
invariant-loop-change l =
    (slot : ℕ) (old : Option FarmRow) (r : FrameRow) → row_after l.changes (key.Frame slot) old ≡ Some (row.Frame r)
    → row_after (drop l.change-index l.changes) (key.Frame slot) (laid_over (get nat_eq l.frames slot) old) ≡ Some (row.Frame r)
