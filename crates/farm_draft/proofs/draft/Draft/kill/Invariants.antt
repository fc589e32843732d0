use Rattle.std.proofs.Common.{◌≡◌, List}
use Rattle.farm_types.specs.declared.slot_row.SlotRow.{SlotRow}
use Rattle.farm_draft.specs.Drafted.{with_slots}
use Rattle.farm_draft.proofs.KilledJobs.{KillsBelow}
use Rattle.farm_draft.proofs.draft.Draft.kill.Given as goal

-- the slots of the layers so far are killed
abbrev pub invariant-loop-layer : goal.invariant-loop-layer
invariant-loop-layer l = (slots : List SlotRow) × (l.self ≡ with_slots l.fn.self slots) × KillsBelow l.fn.self.base l.job l.layer-index slots
