use Rattle.std.proofs.Common.{List, subst, sym}
use Rattle.farm_types.specs.declared.rows.LayerRow.{LayerRow}
use Rattle.farm_places.specs.Shapes.{AreLayers}
use Rattle.farm_places.proofs.ShownParts.{layers_of_are}
use Rattle.farm_places.proofs.shapes.whole_shape.Goals as goal

pub layer_shapes-requires-clause-layers : goal.layer_shapes-requires-clause-layers
layer_shapes-requires-clause-layers c =
    subst (λ (ls : List LayerRow). AreLayers c.args.jobs.now ls) (sym c.layers_of.ensures) (layers_of_are c.args.jobs.now c.args.job)
