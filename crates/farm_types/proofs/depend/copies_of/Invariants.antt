-- The copies and what is left to copy are all of the list.
use Rattle.std.proofs.Common.{◌≡◌, ◌++◌, drop}
use Rattle.farm_types.proofs.depend.copies_of.Given as goal

abbrev pub invariant-loop-depend : goal.invariant-loop-depend
invariant-loop-depend l = l.copies ++ drop l.depend-index l.depends ≡ l.depends
