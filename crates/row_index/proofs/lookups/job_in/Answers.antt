use Rattle.std.proofs.Common.{◌∙◌, ap, eqb, sym}
use Rattle.std.specs.List.{slice_get}
use Rattle.std.proofs.lemmas.List.Folds.{find_at}
use Rattle.farm_types.specs.declared.rows.JobRow.{JobRow}
use Rattle.row_index.proofs.lookups.job_in.Goals as goal

pub returns : goal.returns
returns c = c.row_at.ensures ∙ ap (slice_get c.args.jobs.now) c.place_of_job.ensures ∙ sym (find_at (λ (j : JobRow). eqb j.job c.args.job) c.args.jobs.now)
