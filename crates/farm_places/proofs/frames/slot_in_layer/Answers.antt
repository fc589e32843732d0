use Rattle.std.proofs.Common.{◌∙◌, ℤ, ap, find, w32}
use Rattle.std.proofs.lemmas.Int.{to_z-of_z}
use Rattle.farm_places.specs.Frames.{has_number_at}
use Rattle.farm_places.proofs.FoundFrames.{layer_found, numbers_apart}
use Rattle.farm_places.proofs.frames.slot_in_layer.Goals as goal

pub slot_of_number-requires : goal.slot_of_number-requires
slot_of_number-requires c =
    let k = c.requires.kept in
    let there = c.requires.there in
    numbers_apart c.args.jobs.now k.shows k.keeps there.0 c.args.layer.now there.1 c.layer_slots.result.now c.layer_slots.ensures

pub returns : goal.returns
returns c =
    let k = c.requires.kept in
    let there = c.requires.there in
    c.slot_of_number.ensures
    ∙ (ap (λ (n : ℤ). find (has_number_at c.args.jobs.now.slots n) c.layer_slots.result.now) (to_z-of_z w32 c.args.number c.ranges.number)
    ∙ layer_found c.args.jobs.now k.shows k.keeps there.0 c.args.layer.now there.1 c.layer_slots.result.now c.layer_slots.ensures c.args.number)
