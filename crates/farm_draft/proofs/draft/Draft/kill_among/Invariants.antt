use Rattle.std.proofs.Common.{◌≡◌, drop}
use Rattle.farm_types.specs.Operators.{killed_row}
use Rattle.farm_draft.specs.Drafted.{with_slots}
use Rattle.farm_draft.specs.InTurn.{changed_each}
use Rattle.farm_draft.proofs.draft.Draft.kill_among.Given as goal

-- what is left, changed in turn, gives what all give from the start
abbrev pub invariant-loop-slot : goal.invariant-loop-slot
invariant-loop-slot l =
    with_slots l.self (changed_each (killed_row l.job) l.self.farm.slots (drop l.slot-index l.slots)) ≡ with_slots l.fn.self (changed_each (killed_row l.job) l.fn.self.farm.slots l.slots)
