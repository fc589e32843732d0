use Rattle.std.proofs.Common.{◌≡◌, Some, sym, ◌∙◌, rules}
use Rattle.farm_types.specs.Farm.{host_named}
use Rattle.farm_load.proofs.FailureLemmas.{failed_on}
use Rattle.farm_load.proofs.failures.failures.Goals as goal

-- src/failures.rt:16:1
pub returns-in-Some-clause-value : goal.returns-in-Some-clause-value
returns-in-Some-clause-value c =
    let named : host_named c.args.farm.now c.args.heard.now.host ≡ Some c.in-Some.host = search rules in
    c.failures_on.ensures.value ∙ sym (failed_on c.args.n c.args.farm.now c.args.heard.now c.args.moment c.in-Some.host named)
