use Rattle.std.proofs.Common.{◌≡◌, drop}
use Rattle.farm_types.specs.DependActs.{runs_already}
use Rattle.farm_depends.proofs.new_depends.checks.runs_already.Given as goal

abbrev pub invariant-loop-group : goal.invariant-loop-group
invariant-loop-group l = runs_already l.jobs.slots (drop l.group-index l.groups) ≡ runs_already l.jobs.slots l.groups
