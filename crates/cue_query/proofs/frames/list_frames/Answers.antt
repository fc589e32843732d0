use Rattle.std.proofs.Common.{◌∙◌, ◌≡◌, List, Some, length, refl, sym, ap, arith}
use Rattle.std.specs.Prelude.{slice_get}
use Rattle.std.proofs.lemmas.Option.{slice_get_read}
use Rattle.farm_types.specs.declared.rows.LayerRow.{LayerRow}
use Rattle.farm_types.specs.Farm.{layers_of}
use Rattle.farm_types.specs.Jobs.{JobLists}
use Rattle.farm_types.specs.Step.{lists_of}
use Rattle.cue_query.proofs.LayersListed.{layer_listed}
use Rattle.cue_query.proofs.OwnSlots.{job_slots, layer_there}
use Rattle.cue_query.proofs.frames.list_frames.Goals as goal

pub list_frames_in-requires-clause-there : goal.list_frames_in-requires-clause-there
list_frames_in-requires-clause-there c =
    let ls = c.layers_of-layer-items.result.now in
    let l = c.layer-item.result in
    let its = c.layers_of-layer-items.ensures ∙ ap (λ (b : JobLists). layers_of b.layers c.args.job) (c.jobs.ensures ∙ ap lists_of c.books.ensures.farm) in
    layer_there c.args.farm.now c.args.job ls its c.loop-layer.layer-index l (slice_get_read ls (length ls) c.loop-layer.layer-index l refl c.loop-layer-test.true c.layer-item.is)

pub list_frames_in-requires-clause-room : goal.list_frames_in-requires-clause-room
list_frames_in-requires-clause-room c =
    let f = c.args.farm.now in
    let ls = c.layers_of-layer-items.result.now in
    let n = c.loop-layer.layer-index in
    let l = c.layer-item.result in
    let its = c.layers_of-layer-items.ensures ∙ ap (λ (b : JobLists). layers_of b.layers c.args.job) (c.jobs.ensures ∙ ap lists_of c.books.ensures.farm) in
    let at : slice_get (layers_of f.layers c.args.job) n ≡ Some l = sym (ap (λ (ks : List LayerRow). slice_get ks n) its) ∙ slice_get_read ls (length ls) n l refl c.loop-layer-test.true c.layer-item.is in
    omega (arith, c.loop-layer.invariant.room, job_slots f c.kept.ensures c.args.job n l at)

pub loop-layer-preserved : goal.loop-layer-preserved
loop-layer-preserved c =
    let f = c.args.farm.now in
    let ls = c.layers_of-layer-items.result.now in
    let n = c.loop-layer.layer-index in
    let l = c.layer-item.result in
    layer_listed f ls c.args.page.now c.loop-layer.page c.list_frames_in.new.page n l (layers_of f.layers c.args.job)
    c.loop-layer.invariant (slice_get_read ls (length ls) n l refl c.loop-layer-test.true c.layer-item.is) c.in_ok-list_frames_in.ensures
