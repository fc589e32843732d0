use Rattle.std.proofs.Common.{◌∙◌, List, Option, ap, arith, length}
use Rattle.farm_lines.specs.declared.list_row.ListRow.{ListRow}
use Rattle.farm_lines.specs.Lists.{limit_rows}
use Rattle.farm_types.specs.declared.rows.LimitRow.{LimitRow}
use Rattle.farm_types.specs.Farm.{Farm}
use Rattle.cue_query.specs.Pages.{offered_all}
use Rattle.cue_query.specs.Queries.{rows_if}
use Rattle.cue_query.proofs.LimitsAt.{count_is, row_there}
use Rattle.cue_query.proofs.Listed.{all_listed, at_first, next_listed, passed_to}
use Rattle.cue_query.proofs.limits.list_limits.Goals as goal

pub loop-place-init : goal.loop-place-init
loop-place-init c =
    let f = c.args.farm.now in
    let all = limit_rows f 0 f.limits in
    let next = c.next_row-place in
    let long = count_is f in
    let count = c.count-count.ensures.value ∙ (ap (λ (ls : List LimitRow). length ls) c.limits.ensures.rows ∙ ap (λ (g : Farm). length g.limits) c.books.ensures.farm) in
    passed_to c.args.page.now c.args.page.now next.new.self 0 next.result all (at_first c.args.page.now all) next.ensures.behind (omega (arith, long, count, next.ensures.within)) next.ensures.seen (next.ensures.rows all (omega (arith, long, count)))

pub loop-place-preserved : goal.loop-place-preserved
loop-place-preserved c =
    let f = c.args.farm.now in
    let all = limit_rows f 0 f.limits in
    let l = c.loop-place in
    let next = c.next_row-place-in-loop-place in
    let long = count_is f in
    let count = c.count-count.ensures.value ∙ (ap (λ (ls : List LimitRow). length ls) c.limits.ensures.rows ∙ ap (λ (g : Farm). length g.limits) c.books.ensures.farm) in
    let there = row_there f l.place (omega (arith, count, c.loop-place-test.true)) in
    next_listed c.args.page.now l.page c.list_limit.new.page next.new.self l.place next.result there.0 all l.invariant there.1
    (c.in_ok-list_limit.ensures ∙ ap (λ (o : Option ListRow). offered_all l.page (rows_if o)) there.2)
    next.ensures.behind (omega (arith, long, count, next.ensures.within)) next.ensures.seen (next.ensures.rows all (omega (arith, long, count)))

pub returns : goal.returns
returns c =
    let f = c.args.farm.now in
    let l = c.loop-place in
    let long = count_is f in
    let count = c.count-count.ensures.value ∙ (ap (λ (ls : List LimitRow). length ls) c.limits.ensures.rows ∙ ap (λ (g : Farm). length g.limits) c.books.ensures.farm) in
    all_listed c.args.page.now l.page l.place (limit_rows f 0 f.limits) l.invariant (omega (arith, long, count, c.loop-place-test.false))
