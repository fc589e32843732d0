use Rattle.std.proofs.Common.{◌≡◌, ◌+◌, ◌∙◌, drop, length, slice_get, refl, sym, ap, arith}
use Rattle.std.specs.List.{flat_map}
use Rattle.std.proofs.lemmas.Option.{slice_get_read}
use Rattle.farm_types.specs.Step.{lists_of}
use Rattle.job_book.specs.Index.{ready_of}
use Rattle.dispatch_law.specs.ByIndex.{ranks_in_job}
use Rattle.dispatch_plan.specs.Offers.{offered}
use Rattle.dispatch_plan.proofs.JobSteps.{all_offered, full_stays, piece_step}
use Rattle.dispatch_plan.proofs.NoneFits.{show_unoffered}
use Rattle.dispatch_plan.proofs.Plans.{ready_offered}
use Rattle.dispatch_plan.proofs.offers.offer_show.Goals as goal

pub returns-then-not-has_least_left-clause-items : goal.returns-then-not-has_least_left-clause-items
returns-then-not-has_least_left-clause-items c =
    show_unoffered c.args.farm.now c.args.host c.args.show c.args.sub.now c.args.plan.now.items c.kept.ensures.rows c.requires.there c.requires.billed (sym c.if-not-has_least_left.ensures) c.requires.few

pub returns-then-len-clause-items : goal.returns-then-len-clause-items
returns-then-len-clause-items c =
    let f = c.args.farm.now in
    let ready : c.ready-jobs.result.now ≡ ready_of (lists_of f) c.args.show = c.ready-jobs.ensures.listed c.requires.within ∙ ap (λ b. ready_of b c.args.show) (c.jobs.ensures ∙ ap lists_of c.books.ensures.farm) in
    let test = c.if-len.true in
    let count = c.len.ensures in
    sym (full_stays c.loop-job.plan.items (flat_map (ranks_in_job f c.args.host) (drop c.loop-job.job-index c.ready-jobs.result.now)) c.loop-job.invariant.few (omega (arith, test, count)))
    ∙ (c.loop-job.invariant.items ∙ ap (λ js. offered c.args.plan.now.items (flat_map (ranks_in_job f c.args.host) js)) ready)

pub offer_job-requires-clause-pending : goal.offer_job-requires-clause-pending
offer_job-requires-clause-pending c =
    let f = c.args.farm.now in
    let ready : c.ready-jobs.result.now ≡ ready_of (lists_of f) c.args.show = c.ready-jobs.ensures.listed c.requires.within ∙ ap (λ b. ready_of b c.args.show) (c.jobs.ensures ∙ ap lists_of c.books.ensures.farm) in
    (ready_offered f c.args.host c.args.show c.args.sub.now.sub c.loop-job.job-index c.job-item.result c.kept.ensures.rows c.requires.billed (ap (λ js. slice_get js c.loop-job.job-index) (sym ready) ∙ slice_get_read c.ready-jobs.result.now (length c.ready-jobs.result.now) c.loop-job.job-index c.job-item.result refl c.loop-job-test.true c.job-item.is)).pending

pub offer_job-requires-clause-billed : goal.offer_job-requires-clause-billed
offer_job-requires-clause-billed c =
    let f = c.args.farm.now in
    let ready : c.ready-jobs.result.now ≡ ready_of (lists_of f) c.args.show = c.ready-jobs.ensures.listed c.requires.within ∙ ap (λ b. ready_of b c.args.show) (c.jobs.ensures ∙ ap lists_of c.books.ensures.farm) in
    (ready_offered f c.args.host c.args.show c.args.sub.now.sub c.loop-job.job-index c.job-item.result c.kept.ensures.rows c.requires.billed (ap (λ js. slice_get js c.loop-job.job-index) (sym ready) ∙ slice_get_read c.ready-jobs.result.now (length c.ready-jobs.result.now) c.loop-job.job-index c.job-item.result refl c.loop-job-test.true c.job-item.is)).billed

pub loop-job-preserved : goal.loop-job-preserved
loop-job-preserved c =
    let f = c.args.farm.now in
    let jobs = c.ready-jobs.result.now in
    record {
      items =
          ap (λ ps. offered ps (flat_map (ranks_in_job f c.args.host) (drop (c.loop-job.job-index + 1) jobs))) c.offer_job.ensures.items
          ∙ (sym (piece_step (ranks_in_job f c.args.host) jobs c.loop-job.job-index c.job-item.result c.loop-job.plan.items (slice_get_read jobs (length jobs) c.loop-job.job-index c.job-item.result refl c.loop-job-test.true c.job-item.is)) ∙ c.loop-job.invariant.items);
      few = c.offer_job.ensures.few;
      capacity = c.offer_job.ensures.capacity ∙ c.loop-job.invariant.capacity;
    }

pub returns-clause-items : goal.returns-clause-items
returns-clause-items c =
    let f = c.args.farm.now in
    let ready : c.ready-jobs.result.now ≡ ready_of (lists_of f) c.args.show = c.ready-jobs.ensures.listed c.requires.within ∙ ap (λ b. ready_of b c.args.show) (c.jobs.ensures ∙ ap lists_of c.books.ensures.farm) in
    let test = c.loop-job-test.false in
    sym (all_offered (ranks_in_job f c.args.host) c.ready-jobs.result.now c.loop-job.job-index c.loop-job.plan.items (omega (arith, test)) c.loop-job.invariant.few)
    ∙ (c.loop-job.invariant.items ∙ ap (λ js. offered c.args.plan.now.items (flat_map (ranks_in_job f c.args.host) js)) ready)
