use Rattle.std.proofs.Common.{nat_eq, take}
use Rattle.indexmap.specs.IndexMap.{get}
use Rattle.farm_finish.specs.Versions.{AreLaid}
use Rattle.farm_finish.proofs.versions.versions_of.Given as goal

abbrev pub invariant-loop-change : goal.invariant-loop-change
invariant-loop-change l = AreLaid l.book.slots (take l.change-index l.rows) (get nat_eq l.versions)
