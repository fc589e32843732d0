use Rattle.std.proofs.Common.{◌≡◌, ◌<◌, ◌+◌, ◌-◌, ◌∙◌, length, Some, None, sym, ap, subst, arith}
use Rattle.farm_types.specs.Ranges.{range_numbers}
use Rattle.farm_types.specs.Step.{lists_of}
use Rattle.job_book.specs.Book.{frame_at}
use Rattle.job_book.specs.Index.{IsFirstWaiting, WaitsFirst}
use Rattle.dispatch_law.specs.ByIndex.{ranks_at}
use Rattle.farm_types.specs.Farm.{Farm}
use Rattle.farm_books.specs.Reads.{takes_layer}
use Rattle.dispatch_plan.specs.Offers.{offered}
use Rattle.dispatch_plan.proofs.JobSteps.{full_stays}
use Rattle.dispatch_plan.proofs.AllFits.{view_may_book}
use Rattle.dispatch_plan.proofs.NoneFits.{layer_unoffered}
use Rattle.dispatch_plan.proofs.Steps.{offer_end}
use Rattle.dispatch_plan.proofs.Views.{view_step}
use Rattle.dispatch_plan.proofs.offers.offer_layer.Goals as goal

pub returns-then-not-takes_layer-clause-items : goal.returns-then-not-takes_layer-clause-items
returns-then-not-takes_layer-clause-items c =
    layer_unoffered c.args.farm.now c.args.host c.args.sub c.args.layer.now c.requires.there c.requires.billed c.args.plan.now.items (sym (c.if-not-takes_layer.ensures ∙ ap (λ (f : Farm). takes_layer f c.args.host c.args.sub c.args.layer.now) c.books.ensures.farm)) c.requires.few

pub returns-in_default-clause-items : goal.returns-in_default-clause-items
returns-in_default-clause-items c =
    let f = c.args.farm.now in
    let l = c.args.layer.now in
    let from = c.loop-jobs.from in
    let none : WaitsFirst (lists_of f) l.job l.place from None = subst (λ b. WaitsFirst b l.job l.place from None) (c.jobs-jobs.ensures ∙ ap lists_of c.books-2.ensures.farm) c.in_default.ensures in
    sym (offer_end f c.args.host l.job l.place from (length (range_numbers l.range) - from) c.loop-jobs.plan.items none c.loop-jobs.invariant.few) ∙ c.loop-jobs.invariant.items

pub offer-requires-clause-known : goal.offer-requires-clause-known
offer-requires-clause-known c =
    let first = subst (λ b. IsFirstWaiting b c.args.layer.now.job c.args.layer.now.place c.loop-jobs.from c.in-Some.slot) (c.jobs-jobs.ensures ∙ ap lists_of c.books-2.ensures.farm) c.in-Some.ensures in
    let shown = subst (λ b. frame_at b c.in-Some.slot ≡ Some c.frame-frame.result) (c.jobs-jobs.ensures ∙ ap lists_of c.books-2.ensures.farm) c.frame-frame.ensures in
    view_may_book c.args.farm.now c.args.host c.args.sub c.loop-jobs.from c.in-Some.slot c.args.layer.now c.frame-frame.result c.kept.ensures.rows c.requires.pending c.requires.taken (sym (c.if-not-takes_layer.ensures ∙ ap (λ (f : Farm). takes_layer f c.args.host c.args.sub c.args.layer.now) c.books.ensures.farm)) c.requires.there c.requires.billed first shown

pub overflow_add-from : goal.overflow_add-from
overflow_add-from c =
    let step = view_step c.args.farm.now c.args.host c.args.layer.now.job c.args.layer.now.place c.args.sub c.loop-jobs.from c.in-Some.slot c.args.layer.now c.frame-frame.result c.loop-jobs.plan.items
    c.kept.ensures.rows c.requires.there c.requires.billed
    (subst (λ b. IsFirstWaiting b c.args.layer.now.job c.args.layer.now.place c.loop-jobs.from c.in-Some.slot) (c.jobs-jobs.ensures ∙ ap lists_of c.books-2.ensures.farm) c.in-Some.ensures)
    (subst (λ b. frame_at b c.in-Some.slot ≡ Some c.frame-frame.result) (c.jobs-jobs.ensures ∙ ap lists_of c.books-2.ensures.farm) c.frame-frame.ensures) (let test = c.loop-jobs-test.true in let count = c.len.ensures in omega (arith, test, count)) in
    let within = step.1 in
    let short = c.requires.short in
    omega (arith, within, short)

pub loop-jobs-smaller : goal.loop-jobs-smaller
loop-jobs-smaller c =
    let step = view_step c.args.farm.now c.args.host c.args.layer.now.job c.args.layer.now.place c.args.sub c.loop-jobs.from c.in-Some.slot c.args.layer.now c.frame-frame.result c.loop-jobs.plan.items
    c.kept.ensures.rows c.requires.there c.requires.billed
    (subst (λ b. IsFirstWaiting b c.args.layer.now.job c.args.layer.now.place c.loop-jobs.from c.in-Some.slot) (c.jobs-jobs.ensures ∙ ap lists_of c.books-2.ensures.farm) c.in-Some.ensures)
    (subst (λ b. frame_at b c.in-Some.slot ≡ Some c.frame-frame.result) (c.jobs-jobs.ensures ∙ ap lists_of c.books-2.ensures.farm) c.frame-frame.ensures) (let test = c.loop-jobs-test.true in let count = c.len.ensures in omega (arith, test, count)) in
    let low = step.0 in
    let within = step.1 in
    let less : length (range_numbers c.args.layer.now.range) - (c.frame-frame.result.position + 1) < length (range_numbers c.args.layer.now.range) - c.loop-jobs.from = omega (arith, low, within) in
    less

pub loop-jobs-preserved : goal.loop-jobs-preserved
loop-jobs-preserved c =
    let f = c.args.farm.now in
    let l = c.args.layer.now in
    let next = c.frame-frame.result.position + 1 in
    let step = view_step c.args.farm.now c.args.host c.args.layer.now.job c.args.layer.now.place c.args.sub c.loop-jobs.from c.in-Some.slot c.args.layer.now c.frame-frame.result c.loop-jobs.plan.items
    c.kept.ensures.rows c.requires.there c.requires.billed
    (subst (λ b. IsFirstWaiting b c.args.layer.now.job c.args.layer.now.place c.loop-jobs.from c.in-Some.slot) (c.jobs-jobs.ensures ∙ ap lists_of c.books-2.ensures.farm) c.in-Some.ensures)
    (subst (λ b. frame_at b c.in-Some.slot ≡ Some c.frame-frame.result) (c.jobs-jobs.ensures ∙ ap lists_of c.books-2.ensures.farm) c.frame-frame.ensures) (let test = c.loop-jobs-test.true in let count = c.len.ensures in omega (arith, test, count)) in
    record {
      items = ap (λ ps. offered ps (ranks_at f c.args.host l.job l.place next (length (range_numbers l.range) - next))) c.offer.ensures.items ∙ (sym step.2 ∙ c.loop-jobs.invariant.items);
      few = c.offer.ensures.few;
      capacity = c.offer.ensures.capacity ∙ c.loop-jobs.invariant.capacity;
    }

pub returns-clause-items : goal.returns-clause-items
returns-clause-items c =
    let f = c.args.farm.now in
    let l = c.args.layer.now in
    let from = c.loop-jobs.from in
    let test = c.loop-jobs-test.false in
    let count = c.len.ensures in
    sym (full_stays c.loop-jobs.plan.items (ranks_at f c.args.host l.job l.place from (length (range_numbers l.range) - from)) c.loop-jobs.invariant.few (omega (arith, test, count))) ∙ c.loop-jobs.invariant.items
