use Rattle.std.proofs.Common.{◌≡◌, drop}
use Rattle.std.specs.Prelude.{is_some}
use Rattle.farm_types.specs.DependActs.{waits_for_itself}
use Rattle.stored_farm.proofs.self_waits.waits_for_itself.Given as goal

abbrev pub invariant-loop-group : goal.invariant-loop-group
invariant-loop-group l = is_some (waits_for_itself (drop l.group-index l.groups)) ≡ is_some (waits_for_itself l.groups)
