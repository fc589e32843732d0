use Rattle.std.proofs.Common.{◌∙◌, sym, ap}
use Rattle.std.specs.Prelude.{option_copied}
use Rattle.farm_types.specs.Farm.{Farm, job_at}
use Rattle.cue_query.proofs.JobsAt.{job_itself}
use Rattle.cue_query.proofs.jobs.list_job.Goals as goal

pub shown-requires : goal.shown-requires
shown-requires c = job_itself c.args.farm.now c.args.number.now c.in-Some.job.now (sym (c.job.ensures ∙ ap (λ (g : Farm). job_at g c.args.number.now) c.books.ensures.farm) ∙ ap option_copied c.in-Some.is)
