use Rattle.std.proofs.Common.{◌∙◌, ◌≤◌, ◌<◌, ℕ, List, Option, map, sym, ap, refl, arith}
use Rattle.farm_types.specs.declared.rows.JobRow.{JobRow}
use Rattle.farm_types.specs.declared.states.FrameState.TheVariants.{Waiting}
use Rattle.farm_types.specs.Jobs.{JobLists}
use Rattle.farm_law.proofs.FinishedJobs.{finished_if, unchanged}
use Rattle.job_index.specs.declared.ready_jobs.TheConstants.{JOB_NUMBERS}
use Rattle.job_book.specs.Book.{count_in, without_job}
use Rattle.job_book.specs.Finished.{finished_of, first_of_full, with_one_finished}
use Rattle.job_book.proofs.EndingLemmas.FinishNumbers.{leaver_before, map_without, number_left}
use Rattle.job_book.proofs.EndingLemmas.FinishOrder.{cut_is}
use Rattle.job_book.proofs.jobs.Jobs.finish.Goals as goal

pub finish_one-requires-clause-pending : goal.finish_one-requires-clause-pending
finish_one-requires-clause-pending c = c.leave_first.ensures.pending c.args.job c.requires.pending

pub finish_one-requires-clause-none_waits : goal.finish_one-requires-clause-none_waits
finish_one-requires-clause-none_waits c = ap (λ (b : JobLists). count_in c.args.job Waiting b.slots) c.leave_first.ensures.left ∙ c.requires.none_waits

pub returns : goal.returns
returns c =
    let b = c.args.self.now in
    let job = c.args.job in
    let lists = c.kept.ensures.lists in
    let kept = c.kept.ensures.finishes in
    let most : b.next_job ≤ JOB_NUMBERS = omega (arith, lists.next_within) in
    let left = number_left job b.slots b.jobs b.next_job b.next_finish lists.jobs_rise c.requires.pending kept in
    let less : b.next_finish < JOB_NUMBERS = omega (arith, left, most) in
    let change = finished_if job b.slots b.next_finish in
    let leaves = first_of_full (finished_of b.jobs) in
    let cut = cut_is job b.next_finish b.slots b.jobs b.next_job most lists.jobs_rise c.requires.pending less kept.numbered kept.few kept.differ in
    let first = map_without change (unchanged job b.slots b.next_finish (λ j. j.job) (λ j. refl)) leaves b.jobs in
    let same = ap (λ (o : Option ℕ). without_job o (map change b.jobs)) (leaver_before (finished_of b.jobs) job) in
    let jobs = first ∙ (sym same ∙ sym cut.0) in
    c.finish_one.ensures ∙ ap (with_one_finished job) c.leave_first.ensures.left ∙ ap (λ (js : List JobRow). record (with_one_finished job b) { jobs = js }) jobs
