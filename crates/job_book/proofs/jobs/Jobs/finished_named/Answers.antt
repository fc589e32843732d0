use Rattle.std.proofs.Common.{◌≡◌, ◌∙◌, ℕ, Option, None, Some, eqb, not, filter, find, sym, ap}
use Rattle.farm_types.specs.declared.rows.JobRow.{JobRow}
use Rattle.farm_types.specs.Farm.{for_some}
use Rattle.farm_types.specs.Finish.{is_finished}
use Rattle.farm_types.specs.Jobs.{JobLists, without_finished}
use Rattle.job_book.specs.Book.{without_job}
use Rattle.job_book.specs.Names.{as_list}
use Rattle.job_index.specs.Names.{number_of}
use Rattle.job_book.proofs.EndingLemmas.LeftJobs.{can_leave, finished_goes, none_goes, pending_stays}
use Rattle.job_book.proofs.jobs.Jobs.finished_named.Goals as goal

pub returns-in_err-job-clause-without : goal.returns-in_err-job-clause-without
returns-in_err-job-clause-without c =
    let inside = c.self.inside in
    let name = c.args.name.now in
    let none : number_of name inside.names.pairs ≡ None = sym (sym c.in_err-job.was ∙ c.get.ensures) in
    sym (ap (λ (b : JobLists). without_finished name b.jobs) c.self.view_is) ∙ none_goes name inside.entries.rows (c.self.invariant.names.named name ∙ ap as_list none)
    ∙ ap (λ (b : JobLists). b.jobs) c.self.view_is ∙ sym (ap (λ (o : Option ℕ). without_job o c.args.self.now.jobs) c.from_residual.ensures)

pub returns-then-is_pending_in-clause-without : goal.returns-then-is_pending_in-clause-without
returns-then-is_pending_in-clause-without c =
    let inside = c.self.inside in
    let name = c.args.name.now in
    let at : number_of name inside.names.pairs ≡ Some c.in_ok-job.job = sym (sym c.in_ok-job.was ∙ c.get.ensures) in
    sym (ap (λ (b : JobLists). without_finished name b.jobs) c.self.view_is)
    ∙ pending_stays name inside.entries.rows inside.entries.next c.self.invariant.lists.jobs_rise c.in_ok-job.job (c.self.invariant.names.named name ∙ ap as_list at) (sym c.is_pending_in.ensures ∙ c.if-is_pending_in.true)
    ∙ ap (λ (b : JobLists). b.jobs) c.self.view_is

pub returns-clause-without : goal.returns-clause-without
returns-clause-without c =
    let inside = c.self.inside in
    let name = c.args.name.now in
    let at : number_of name inside.names.pairs ≡ Some c.in_ok-job.job = sym (sym c.in_ok-job.was ∙ c.get.ensures) in
    sym (ap (λ (b : JobLists). without_finished name b.jobs) c.self.view_is)
    ∙ sym (finished_goes name inside.entries.rows inside.entries.next c.self.invariant.lists.jobs_rise c.in_ok-job.job (c.self.invariant.names.named name ∙ ap as_list at) (sym c.is_pending_in.ensures ∙ c.if-is_pending_in.false))
    ∙ ap (λ (b : JobLists). filter (λ (j : JobRow). not (eqb j.job c.in_ok-job.job)) b.jobs) c.self.view_is

pub returns-clause-there : goal.returns-clause-there
returns-clause-there c =
    let inside = c.self.inside in
    let name = c.args.name.now in
    let at : number_of name inside.names.pairs ≡ Some c.in_ok-job.job = sym (sym c.in_ok-job.was ∙ c.get.ensures) in
    sym (ap (λ (b : JobLists). for_some (find (λ (j : JobRow). eqb j.job c.in_ok-job.job) b.jobs) is_finished) c.self.view_is)
    ∙ can_leave name inside.entries.rows inside.entries.next c.self.invariant.lists.jobs_rise c.in_ok-job.job (c.self.invariant.names.named name ∙ ap as_list at) (sym c.is_pending_in.ensures ∙ c.if-is_pending_in.false)
