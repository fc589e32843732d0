use Rattle.std.proofs.Common.{◌∙◌}
use Rattle.farm_types.specs.Farm.{layers_of}
use Rattle.stored_rows.specs.SoFar.{shapes_with}
use Rattle.stored_rows.proofs.Shapes.{shapes_known}
use Rattle.stored_rows.proofs.stored_rows.StoredRows.shape.Goals as goal

pub returns : goal.returns
returns c =
    let f = c.args.self.now.farm in
    let shapes = c.in_ok-layers.ensures ∙ (λ i. shapes_with c.args.none (c.layers_of.ensures i) (c.known_of.ensures i)) ∙ shapes_known c.args.none f.slots (layers_of f.layers c.args.job) in
    λ i. record { layers = shapes i }
