use Rattle.std.proofs.Common.{◌∙◌, ℕ, List, sym, ap, subst}
use Rattle.farm_types.specs.Jobs.{JobLists, without_finished}
use Rattle.farm_changes.specs.RowChanges.{Leaves}
use Rattle.farm_changes.proofs.row_changes.left_by.Goals as goal

pub returns : goal.returns
returns c =
    let jobs = c.jobs-jobs.result.now in
    subst (λ (b : JobLists). Leaves b c.finished_named.result c.args.spec.now) c.jobs-jobs.ensures
    (record {
      without = sym (ap (λ (name : List ℕ). without_finished name jobs.jobs) c.as_str.ensures) ∙ c.finished_named.ensures.without;
      no_job = c.next_number-number.ensures.no_job;
      no_layer = c.next_number-number.ensures.no_layer;
    })
