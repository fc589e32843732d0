use Rattle.std.proofs.Common.{◌≡◌, drop}
use Rattle.std.specs.List.{list_all}
use Rattle.stored_farm.specs.Ends.{is_marked_in}
use Rattle.stored_farm.proofs.ends.are_marked.Given as goal

abbrev pub invariant-loop-group : goal.invariant-loop-group
invariant-loop-group l = list_all (is_marked_in l.met l.depend) (drop l.group-index l.groups) ≡ list_all (is_marked_in l.met l.depend) l.groups
