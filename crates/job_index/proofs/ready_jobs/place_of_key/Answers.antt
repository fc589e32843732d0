use Rattle.std.proofs.Common.{◌∙◌}
use Rattle.job_index.specs.Keys.{itself}
use Rattle.farm_types.proofs.Searched.{searched}
use Rattle.job_index.proofs.ready_jobs.place_of_key.Goals as goal

pub returns : goal.returns
returns c = c.unwrap_or.ensures ∙ searched itself c.args.keys.now 0 _ c.requires c.args.key c.binary_search.result c.binary_search.ensures.bound c.binary_search.ensures.position
