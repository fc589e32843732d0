-- Slots whose attempts only end where all that is left of a job is eaten.
use Rattle.std.proofs.Common.{◌≡◌, ℕ, List, Option, Some, None, map, true, false, refl}
use Rattle.std.specs.List.{slice_get}
use Rattle.std.specs.Option.{IsSome}
use Rattle.std.proofs.lemmas.Bool.{false≢true}
use Rattle.farm_types.specs.declared.attempt.ProcRow.{ProcRow}
use Rattle.farm_types.specs.declared.slot_row.Frame.{Frame}
use Rattle.farm_types.specs.declared.slot_row.SlotRow.{SlotRow}
use Rattle.farm_types.specs.declared.states.FrameState.{FrameState}
use Rattle.farm_types.specs.declared.states.FrameState.TheVariants as frame_state
use Rattle.farm_types.specs.Operators.{is_left_of, killed_row, stopped_row}
use Rattle.farm_types.proofs.Changed.{mapped_each}
use Rattle.farm_types.proofs.Passes.{cond_each}
use Rattle.farm_draft.specs.Ends.{AreFramed, MayEnd, OnlyEnds}

-- ---- one slot

stopped_by : (state : FrameState) (version : ℕ) (frame : Option Frame) (proc : Option ProcRow) → (IsSome proc → IsSome frame)
    → (let s : SlotRow = record { version = version; frame = frame; proc = proc } in MayEnd s (stopped_row state s))
stopped_by state version None None framed = (true, refl)
stopped_by state version None (Some p) framed = absurd (false≢true (framed refl))
stopped_by state version (Some x) proc framed = (false, (refl, refl))

row_stopped : (state : FrameState) (s : SlotRow) → (IsSome s.proc → IsSome s.frame) → MayEnd s (stopped_row state s)
row_stopped state s framed = stopped_by state s.version s.frame s.proc framed

row_killed : (job : ℕ) (s : SlotRow) → (IsSome s.proc → IsSome s.frame) → MayEnd s (killed_row job s)
row_killed job s framed = cond_each (MayEnd s) (is_left_of job s) (stopped_row frame_state.Eaten s) s (row_stopped frame_state.Eaten s framed) (true, refl)

-- ---- all slots

pub ends_killed : (job : ℕ) (slots : List SlotRow) → AreFramed slots → OnlyEnds slots (map (killed_row job) slots)
ends_killed job slots framed =
    mapped_each (λ i new. (old : SlotRow) × (slice_get slots i ≡ Some old) × MayEnd old new) slots (killed_row job) (λ i s at. (s, at, row_killed job s (framed i s at)))
