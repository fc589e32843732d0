use Rattle.std.proofs.Common.{rules}
use Rattle.std.proofs.lemmas.Fn.{filter_same}
use Rattle.job_index.proofs.TextNumbers.{stays}
use Rattle.job_index.proofs.job_names.remove_late.Goals as goal

pub returns-clause-items : goal.returns-clause-items
returns-clause-items c = filter_same _ (stays c.args.name.now) _ (λ x b f h. (search rules, search rules)) _ _ c.retain.ensures.filtered
