use Rattle.std.proofs.Common.{◌∙◌, None, Some, cond, option_map, Bool, sym, ap}
use Rattle.std.specs.List.{find}
use Rattle.farm_types.specs.Jobs.{JobLists, is_pending_named}
use Rattle.farm_types.specs.Rising.{job_key}
use Rattle.job_book.proofs.NamedJobs.{if_pending, pending_found}
use Rattle.job_book.proofs.jobs.Jobs.pending.Goals as goal

pub returns-in_err-job : goal.returns-in_err-job
returns-in_err-job c =
    let inside = c.self.inside in
    let name = c.args.name.now in
    c.from_residual.ensures ∙ ap (if_pending inside.entries.rows) (sym c.in_err-job.was ∙ c.get.ensures)
    ∙ sym (pending_found inside.names.pairs 0 inside.entries.next inside.entries.rows c.self.invariant.lists.jobs_rise c.self.invariant.names name) ∙ ap (λ (b : JobLists). option_map job_key (find (is_pending_named name) b.jobs)) c.self.view_is

pub returns-then-is_pending_in : goal.returns-then-is_pending_in
returns-then-is_pending_in c =
    let inside = c.self.inside in
    let name = c.args.name.now in
    ap (λ (b : Bool). cond b (Some c.in_ok-job.job) None) (sym c.if-is_pending_in.true ∙ c.is_pending_in.ensures) ∙ ap (if_pending inside.entries.rows) (sym c.in_ok-job.was ∙ c.get.ensures)
    ∙ sym (pending_found inside.names.pairs 0 inside.entries.next inside.entries.rows c.self.invariant.lists.jobs_rise c.self.invariant.names name) ∙ ap (λ (b : JobLists). option_map job_key (find (is_pending_named name) b.jobs)) c.self.view_is

pub returns : goal.returns
returns c =
    let inside = c.self.inside in
    let name = c.args.name.now in
    ap (λ (b : Bool). cond b (Some c.in_ok-job.job) None) (sym c.if-is_pending_in.false ∙ c.is_pending_in.ensures) ∙ ap (if_pending inside.entries.rows) (sym c.in_ok-job.was ∙ c.get.ensures)
    ∙ sym (pending_found inside.names.pairs 0 inside.entries.next inside.entries.rows c.self.invariant.lists.jobs_rise c.self.invariant.names name) ∙ ap (λ (b : JobLists). option_map job_key (find (is_pending_named name) b.jobs)) c.self.view_is
