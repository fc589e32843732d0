use Rattle.std.proofs.Common.{◌∙◌, ℕ, ap, eqb}
use Rattle.std.specs.List.{position_or_len}
use Rattle.farm_types.specs.declared.rows.JobRow.{JobRow}
use Rattle.row_index.proofs.lookups.place_of_job.Goals as goal

pub returns : goal.returns
returns c = c.job_place.ensures ∙ ap (λ (n : ℕ). position_or_len (λ (j : JobRow). eqb j.job n) c.args.jobs.now) c.job.view_is
