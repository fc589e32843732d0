-- What stands in the slots once an act's rows are put in.
use Rattle.std.specs.Prelude.{ℕ, ◌≡◌, ◌≤◌, ◌<◌, ◌+◌, ◌-◌, ◌^◌, List, All, Option, None, Some, length, map, nat_eq, slice_get}
use Rattle.std.specs.List.{IsDistinct}
use Rattle.farm_types.specs.declared.slot_row.SlotRow.{SlotRow}
use Rattle.farm_types.specs.Finish.{count_where, has_succeeded, was_eaten}
use Rattle.farm_types.specs.Settle.{raised}
use Rattle.farm_rows.specs.declared.farm_row.FarmRow.TheVariants as row
use Rattle.farm_rows.specs.declared.row_change.RowChange.{RowChange}
use Rattle.farm_rows.specs.declared.row_change.RowChange.TheVariants as change
use Rattle.farm_draft.specs.Rows.{Stood, put_slots, slot_of}
use Rattle.farm_draft.specs.declared.slot_change.SlotChange.{SlotChange}
use Rattle.farm_finish.specs.Gone.{version_in}
use Rattle.farm_finish.specs.declared.rows_job.Done.{Done}

-- the rows take the place of those that stand in the slots, and no slot has two rows
pub record AreSet (slots : List SlotRow) (rows : List SlotChange) : Type 0 where
  pub stood : All (Stood slots) rows
  pub differ : IsDistinct nat_eq (map slot_of rows)

-- the version that is laid for a slot, or that of its row
abbrev pub version_or : Option ℕ → Option SlotRow → ℕ
version_or None row = version_in row
version_or (Some version) row = version

-- these are laid over the slots where those rows are put in
abbrev pub AreLaid : List SlotRow → List SlotChange → (ℕ → Option ℕ) → Type 0
AreLaid slots rows over = (n : ℕ) → version_or (over n) (slice_get slots n) ≡ version_in (slice_get (put_slots slots rows) n)

-- how many frames of the job were eaten, and how many succeeded
abbrev pub done_in : ℕ → List SlotRow → Done
done_in job slots = record { eaten = count_where job was_eaten slots; succeeded = count_where job has_succeeded slots }

-- that part is counted, and few enough are
pub record CanMove (done old new : Done) : Type 0 where
  pub eaten : old.eaten ≤ done.eaten
  pub succeeded : old.succeeded ≤ done.succeeded
  pub eaten_room : done.eaten + new.eaten < 2 ^ 32
  pub succeeded_room : done.succeeded + new.succeeded < 2 ^ 32

-- with one slot's part changed
abbrev pub moved_done : Done → Done → Done → Done
moved_done done old new = record { eaten = done.eaten - old.eaten + new.eaten; succeeded = done.succeeded - old.succeeded + new.succeeded }

-- the slot is free, one version later than is laid for it
abbrev pub freed_by : List SlotRow → (ℕ → Option ℕ) → ℕ → RowChange
freed_by slots over slot = change.Put (row.Frame (record { slot = slot; version = raised (version_or (over slot) (slice_get slots slot)); frame = None }))
