use Rattle.farm_books.specs.Cleared.{is_listed}
use Rattle.farm_books.specs.Cleared.{is_in_layer}
use Rattle.farm_books.proofs.ClearedLayer.{layer_listed}
use Rattle.farm_books.proofs.Clears.{cleared_as}
use Rattle.farm_books.proofs.clearing.clear_layer.Goals as goal

pub returns : goal.returns
returns c =
    let slots = c.args.jobs.now.slots in
    let list = c.layer_slots.result.now in
    cleared_as (is_listed list) (is_in_layer slots c.args.job c.args.place) c.args.depends.now c.clear_slots.new.depends c.clear_slots.ensures
    (layer_listed slots c.args.job c.args.place list c.requires c.layer_slots.ensures)
