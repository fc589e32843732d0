use Rattle.std.proofs.Common.{◌≡◌, drop}
use Rattle.std.specs.List.{list_any}
use Rattle.stored_farm.specs.Ends.{lacks_mark}
use Rattle.stored_farm.proofs.ends.one_lacks_mark.Given as goal

abbrev pub invariant-loop-group : goal.invariant-loop-group
invariant-loop-group l = list_any (lacks_mark l.met l.slots l.depend) (drop l.group-index l.groups) ≡ list_any (lacks_mark l.met l.slots l.depend) l.groups
