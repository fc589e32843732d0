use Rattle.std.proofs.Common.{◌≡◌, drop}
use Rattle.std.specs.List.{list_any}
use Rattle.farm_types.specs.Depends.{is_done}
use Rattle.stored_farm.proofs.ends.is_one_done.Given as goal

abbrev pub invariant-loop-target : goal.invariant-loop-target
invariant-loop-target l = list_any (is_done l.slots) (drop l.target-index l.targets) ≡ list_any (is_done l.slots) l.targets
