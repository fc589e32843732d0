use Rattle.std.proofs.Common.{nat_eq, take}
use Rattle.indexmap.specs.IndexMap.{get}
use Rattle.farm_finish.specs.Adding.{AddsFrames}
use Rattle.farm_books.specs.Cleared.{is_in_layers}
use Rattle.farm_finish.proofs.rows_gone.layers_free.Given as goal

abbrev pub invariant-loop-layer : goal.invariant-loop-layer
invariant-loop-layer l = AddsFrames l.book.slots (get nat_eq l.versions) (is_in_layers l.book.slots l.job (take l.layer-index l.layers)) l.fn.changes.items l.changes.items
