use Rattle.std.proofs.Common.{◌∙◌}
use Rattle.farm_places.proofs.KeptShapes.{layer_shape_is}
use Rattle.farm_places.proofs.shapes.layer_shape.Goals as goal

pub returns : goal.returns
returns c =
    let jobs = c.args.jobs.now in
    let layer = c.args.layer.now in
    let k = c.requires.kept in
    let there = c.requires.there in
    layer_shape_is jobs k.shows k.keeps there.0 layer there.1 c.layer_slots-slots.result.now c.layer_slots-slots.ensures
    (record { name = c.in_ok-name.name; numbers = c.in_ok-numbers.numbers; slots = c.from_vec-slots.result })
    c.in_ok-name.ensures c.in_ok-numbers.ensures (c.from_vec-slots.ensures ∙ c.in_ok-from_slice.ensures.items)
