use Rattle.std.proofs.Common.{◌≡◌, drop, not}
use Rattle.farm_types.specs.declared.rows.LayerRow.{LayerRow}
use Rattle.farm_types.specs.Kept.{has_its_limit}
use Rattle.farm_rows.specs.Recovery.{first_layer}
use Rattle.stored_rows.proofs.ends.first_unlimited.Given as goal

abbrev pub invariant-loop-layer : goal.invariant-loop-layer
invariant-loop-layer l = first_layer (λ (m : LayerRow). not (has_its_limit l.limits m)) (drop l.layer-index l.layers) ≡ first_layer (λ (m : LayerRow). not (has_its_limit l.limits m)) l.layers
