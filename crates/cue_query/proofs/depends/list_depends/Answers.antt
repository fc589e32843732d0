use Rattle.std.proofs.Common.{◌∙◌, Option, length, refl, ap, arith}
use Rattle.std.proofs.lemmas.Option.{slice_get_read}
use Rattle.farm_lines.specs.declared.list_row.ListRow.{ListRow}
use Rattle.farm_lines.specs.Lists.{depend_rows}
use Rattle.cue_query.specs.Pages.{offered_all}
use Rattle.cue_query.specs.Queries.{rows_if}
use Rattle.cue_query.proofs.DependsAt.{count_is, row_there}
use Rattle.cue_query.proofs.Listed.{all_listed, at_first, next_listed, passed_to}
use Rattle.cue_query.proofs.depends.list_depends.Goals as goal

pub loop-place-init : goal.loop-place-init
loop-place-init c =
    let f = c.args.farm.now in
    let all = depend_rows f c.args.job in
    let next = c.next_row-place in
    let are = c.as_slice-numbers.ensures.value ∙ c.in_ok-waiting.ensures in
    let long = count_is f c.args.job f.next_depend c.kept.ensures.depends.rise c.as_slice-numbers.result.now are in
    passed_to c.args.page.now c.args.page.now next.new.self 0 next.result all (at_first c.args.page.now all) next.ensures.behind (omega (arith, long, next.ensures.within)) next.ensures.seen (next.ensures.rows all long)

pub loop-place-preserved : goal.loop-place-preserved
loop-place-preserved c =
    let f = c.args.farm.now in
    let all = depend_rows f c.args.job in
    let numbers = c.as_slice-numbers.result.now in
    let l = c.loop-place in
    let number = c.index-numbers-place.result in
    let next = c.next_row-place-in-loop-place in
    let are = c.as_slice-numbers.ensures.value ∙ c.in_ok-waiting.ensures in
    let long = count_is f c.args.job f.next_depend c.kept.ensures.depends.rise numbers are in
    let there =
    row_there f c.args.job f.next_depend c.kept.ensures.depends.rise numbers are l.place number (slice_get_read numbers (length numbers) l.place number refl c.loop-place-test.true c.index-numbers-place.is) in
    next_listed c.args.page.now l.page c.list_depend.new.page next.new.self l.place next.result there.0 all l.invariant there.1
    (c.in_ok-list_depend.ensures ∙ ap (λ (o : Option ListRow). offered_all l.page (rows_if o)) there.2)
    next.ensures.behind (omega (arith, long, next.ensures.within)) next.ensures.seen (next.ensures.rows all long)

pub returns : goal.returns
returns c =
    let f = c.args.farm.now in
    let l = c.loop-place in
    let are = c.as_slice-numbers.ensures.value ∙ c.in_ok-waiting.ensures in
    let long = count_is f c.args.job f.next_depend c.kept.ensures.depends.rise c.as_slice-numbers.result.now are in
    all_listed c.args.page.now l.page l.place (depend_rows f c.args.job) l.invariant (omega (arith, long, c.loop-place-test.false))
