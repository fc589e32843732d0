use Rattle.std.proofs.Common.{◌∙◌, ℕ, List, Option, length, refl, ap, arith}
use Rattle.std.proofs.lemmas.Option.{slice_get_read}
use Rattle.farm_lines.specs.declared.list_row.ListRow.{ListRow}
use Rattle.farm_lines.specs.Lists.{frames_in}
use Rattle.farm_types.specs.Step.{lists_of}
use Rattle.cue_query.specs.Pages.{offered_all}
use Rattle.cue_query.specs.Queries.{frame_at, rows_if}
use Rattle.cue_query.proofs.FramesAt.{count_is, row_there}
use Rattle.cue_query.proofs.Listed.{all_listed, at_first, next_listed, passed_to}
use Rattle.cue_query.proofs.frames.list_frames_in.Goals as goal

pub loop-place-init : goal.loop-place-init
loop-place-init c =
    let f = c.args.farm.now in
    let layer = c.args.layer.now in
    let all = frames_in f layer in
    let next = c.next_row-place in
    let long = count_is f c.kept.ensures layer c.requires.there c.jobs.result.now c.layer_slots-slots.result.now (c.jobs.ensures ∙ ap lists_of c.books.ensures.farm) c.layer_slots-slots.ensures in
    passed_to c.args.page.now c.args.page.now next.new.self 0 next.result all (at_first c.args.page.now all) next.ensures.behind (omega (arith, long, next.ensures.within)) next.ensures.seen (next.ensures.rows all long)

pub loop-place-preserved : goal.loop-place-preserved
loop-place-preserved c =
    let f = c.args.farm.now in
    let layer = c.args.layer.now in
    let all = frames_in f layer in
    let slots = c.layer_slots-slots.result.now in
    let l = c.loop-place in
    let slot = c.index-slots-place.result in
    let next = c.next_row-place-in-loop-place in
    let long = count_is f c.kept.ensures layer c.requires.there c.jobs.result.now slots (c.jobs.ensures ∙ ap lists_of c.books.ensures.farm) c.layer_slots-slots.ensures in
    let there =
    row_there f c.kept.ensures layer c.requires.there c.jobs.result.now slots (c.jobs.ensures ∙ ap lists_of c.books.ensures.farm) c.layer_slots-slots.ensures l.place slot
    (slice_get_read slots (length slots) l.place slot refl c.loop-place-test.true c.index-slots-place.is) in
    next_listed c.args.page.now l.page c.list_frame_at.new.page next.new.self l.place next.result there.0 all l.invariant there.1
    (c.in_ok-list_frame_at.ensures ∙ (ap (λ (name : List ℕ). offered_all l.page (rows_if (frame_at f name slot))) c.as_str.ensures ∙ ap (λ (o : Option ListRow). offered_all l.page (rows_if o)) there.2))
    next.ensures.behind (omega (arith, long, next.ensures.within)) next.ensures.seen (next.ensures.rows all long)

pub returns : goal.returns
returns c =
    let f = c.args.farm.now in
    let layer = c.args.layer.now in
    let l = c.loop-place in
    let long = count_is f c.kept.ensures layer c.requires.there c.jobs.result.now c.layer_slots-slots.result.now (c.jobs.ensures ∙ ap lists_of c.books.ensures.farm) c.layer_slots-slots.ensures in
    all_listed c.args.page.now l.page l.place (frames_in f layer) l.invariant (omega (arith, long, c.loop-place-test.false))
