-- Slots that become free, one after another.
use Rattle.std.specs.Prelude.{ℕ, List, [], ◌∷◌, None}
use Rattle.farm_types.specs.declared.slot_row.SlotRow.{SlotRow}
use Rattle.farm_types.specs.Farm.{changed_at}
use Rattle.farm_types.specs.Finish.{freed_row}
use Rattle.farm_types.specs.Settle.{raised}

-- the slot without its frame, one version later
abbrev pub without_frame : SlotRow → SlotRow
without_frame s = record { version = raised s.version; frame = None; proc = None }

-- the slots at these places, where they have a frame of the job
abbrev pub freed_at : ℕ → List ℕ → List SlotRow → List SlotRow
freed_at job [] slots = slots
freed_at job (n ∷ ns) slots = freed_at job ns (changed_at slots n (freed_row job))

abbrev pub freed_all : ℕ → List (List ℕ) → List SlotRow → List SlotRow
freed_all job [] slots = slots
freed_all job (ns ∷ lists) slots = freed_all job lists (freed_at job ns slots)
