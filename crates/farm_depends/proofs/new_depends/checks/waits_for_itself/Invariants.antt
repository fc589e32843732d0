use Rattle.std.proofs.Common.{◌≡◌, drop}
use Rattle.farm_types.specs.DependActs.{waits_for_itself}
use Rattle.farm_depends.proofs.new_depends.checks.waits_for_itself.Given as goal

abbrev pub invariant-loop-group : goal.invariant-loop-group
invariant-loop-group l = waits_for_itself (drop l.group-index l.groups) ≡ waits_for_itself l.groups
