use Rattle.std.proofs.Common.{◌≡◌, drop}
use Rattle.std.specs.List.{find}
use Rattle.farm_types.specs.DependActs.{runs_at}
use Rattle.farm_depends.proofs.new_depends.checks.first_running.Given as goal

abbrev pub invariant-loop-slot : goal.invariant-loop-slot
invariant-loop-slot l = find (runs_at l.jobs.slots) (drop l.slot-index l.slots) ≡ find (runs_at l.jobs.slots) l.slots
