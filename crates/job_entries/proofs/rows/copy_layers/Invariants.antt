use Rattle.std.proofs.Common.{◌≡◌, ◌++◌, take}
use Rattle.job_entries.proofs.rows.copy_layers.Given as goal

abbrev pub invariant-loop-layer : goal.invariant-loop-layer
invariant-loop-layer l = l.rows.items ≡ l.fn.rows.items ++ take l.layer-index l.layers
