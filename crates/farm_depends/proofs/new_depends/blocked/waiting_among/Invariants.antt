use Rattle.std.proofs.Common.{◌≡◌, take, filter}
use Rattle.farm_depends.specs.Coming.{waits_at}
use Rattle.farm_depends.proofs.new_depends.blocked.waiting_among.Given as goal

abbrev pub invariant-loop-slot : goal.invariant-loop-slot
invariant-loop-slot l = l.waiting ≡ filter (waits_at l.jobs.slots) (take l.slot-index l.slots)
