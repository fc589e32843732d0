use Rattle.std.proofs.Common.{◌∙◌, length, refl, ap}
use Rattle.farm_lines.specs.Lists.{sub_row}
use Rattle.farm_types.specs.Farm.{Farm}
use Rattle.cue_query.proofs.Listed.{item_listed}
use Rattle.cue_query.proofs.subs.list_subs.Goals as goal

pub loop-place-preserved : goal.loop-place-preserved
loop-place-preserved c =
    let f = c.args.farm.now in
    let l = c.loop-place in
    let subs = c.as_slice-subs.result.now in
    let next = c.next_row-place-in-loop-place in
    item_listed (sub_row f) subs f.subs (length subs) c.args.page.now l.page c.list_sub.new.page next.new.self l.place next.result c.index-subs-place.result
    (c.as_slice-subs.ensures.value ∙ (c.in_ok-rows.ensures ∙ (c.subs.ensures.rows ∙ ap (λ (g : Farm). g.subs) c.books.ensures.farm))) refl c.loop-place-test.true c.index-subs-place.is l.invariant c.in_ok-list_sub.ensures
    next.ensures.behind next.ensures.within next.ensures.seen next.ensures.rows
