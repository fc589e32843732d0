use Rattle.std.proofs.Common.{◌∙◌, length, refl, ap}
use Rattle.std.proofs.lemmas.Option.{slice_get_read}
use Rattle.farm_types.specs.Farm.{layers_of}
use Rattle.farm_types.specs.Jobs.{JobLists}
use Rattle.farm_lines.specs.Lists.{layer_row}
use Rattle.farm_types.specs.Step.{lists_of}
use Rattle.cue_query.proofs.Listed.{item_listed}
use Rattle.cue_query.proofs.OwnSlots.{layer_there}
use Rattle.cue_query.proofs.layers.list_layers.Goals as goal

pub list_layer-requires-clause-there : goal.list_layer-requires-clause-there
list_layer-requires-clause-there c =
    let ls = c.layers_of-layers.result.now in
    let l = c.index-layers-place.result in
    let place = c.loop-place.place in
    let its = c.layers_of-layers.ensures ∙ ap (λ (b : JobLists). layers_of b.layers c.args.job) (c.jobs.ensures ∙ ap lists_of c.books.ensures.farm) in
    layer_there c.args.farm.now c.args.job ls its place l (slice_get_read ls (length ls) place l refl c.loop-place-test.true c.index-layers-place.is)

pub loop-place-preserved : goal.loop-place-preserved
loop-place-preserved c =
    let f = c.args.farm.now in
    let ls = c.layers_of-layers.result.now in
    let l = c.loop-place in
    let next = c.next_row-place-in-loop-place in
    let its = c.layers_of-layers.ensures ∙ ap (λ (b : JobLists). layers_of b.layers c.args.job) (c.jobs.ensures ∙ ap lists_of c.books.ensures.farm) in
    item_listed (layer_row f) ls (layers_of f.layers c.args.job) (length ls) c.args.page.now l.page c.list_layer.new.page next.new.self l.place next.result c.index-layers-place.result
    its refl c.loop-place-test.true c.index-layers-place.is l.invariant c.in_ok-list_layer.ensures
    next.ensures.behind next.ensures.within next.ensures.seen next.ensures.rows
