use Rattle.std.proofs.Common.{◌∙◌, ◌≤◌, ℕ, Option, All, IfNone, IfSome, sym, ap, subst}
use Rattle.farm_types.specs.declared.rows.JobRow.{JobRow}
use Rattle.farm_types.specs.Jobs.{JobLists}
use Rattle.farm_types.specs.Rising.{IsNextKey, IsRising, job_key}
use Rattle.farm_types.proofs.NextKey.{next_is}
use Rattle.job_book.specs.Book.{job_after}
use Rattle.job_book.proofs.jobs.Jobs.next.Goals as goal

pub returns : goal.returns
returns c =
    let jobs = c.args.self.now.jobs in
    let is = c.after.ensures ∙ ap (λ (b : JobLists). job_after b c.args.after) c.self.view_is in
    let rise = subst (λ (b : JobLists). IsRising job_key 0 b.jobs b.next_job) c.self.view_is c.self.invariant.lists.jobs_rise in
    let next = next_is job_key c.args.after 0 jobs c.args.self.now.next_job rise in
    record {
      value = is;
      least = subst (λ (o : Option ℕ). IfSome o (IsNextKey job_key jobs c.args.after)) (sym is) next.least;
      none = subst (λ (o : Option ℕ). IfNone o (All (λ (j : JobRow). j.job ≤ c.args.after) jobs)) (sym is) next.none;
    }
