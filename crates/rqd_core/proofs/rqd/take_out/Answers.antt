use Rattle.std.proofs.Common.{not, rules}
use Rattle.std.proofs.lemmas.Fn.{filter_same}
use Rattle.farm_types.specs.Run.{is_same}
use Rattle.rqd_core.specs.declared.running.Running.{Running}
use Rattle.rqd_core.proofs.rqd.take_out.Goals as goal

pub returns-clause-items : goal.returns-clause-items
returns-clause-items c = filter_same _ (λ (r : Running). not (is_same r.attempt c.args.attempt.now)) _ (λ x b f h. (search rules, search rules)) _ _ c.retain.ensures.filtered
