use Rattle.std.proofs.Common.{◌≡◌, ◌++◌, drop, map, nat_eq}
use Rattle.indexmap.specs.IndexMap.{get}
use Rattle.farm_finish.specs.Versions.{freed_by}
use Rattle.farm_finish.proofs.rows_gone.slots_free.Given as goal

abbrev pub invariant-loop-slot : goal.invariant-loop-slot
invariant-loop-slot l = l.changes.items ++ map (freed_by l.book.slots (get nat_eq l.versions)) (drop l.slot-index l.slots) ≡ l.fn.changes.items ++ map (freed_by l.book.slots (get nat_eq l.versions)) l.slots
