use Rattle.std.proofs.Common.{◌≡◌, take}
use Rattle.farm_depends.specs.Coming.{unmet_by}
use Rattle.farm_depends.proofs.new_depends.blocked.unmet_waiters.Given as goal

abbrev pub invariant-loop-group : goal.invariant-loop-group
invariant-loop-group l = l.slots.items ≡ unmet_by l.depends.graph.done (take l.group-index l.groups)
