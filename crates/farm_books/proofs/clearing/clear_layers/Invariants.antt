use Rattle.std.proofs.Common.{take}
use Rattle.farm_books.specs.Cleared.{IsCleared, is_in_layers}
use Rattle.farm_books.proofs.clearing.clear_layers.Given as goal

abbrev pub invariant-loop-layer : goal.invariant-loop-layer
invariant-loop-layer l = IsCleared (is_in_layers l.jobs.slots l.job (take l.layer-index l.layers)) l.fn.depends l.depends
