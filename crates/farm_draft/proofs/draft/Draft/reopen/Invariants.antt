use Rattle.std.proofs.Common.{◌≡◌}
use Rattle.farm_types.specs.Hosts.{reopened_row}
use Rattle.farm_draft.specs.Drafted.{with_hosts}
use Rattle.farm_draft.proofs.Passed.{passed}
use Rattle.farm_draft.proofs.draft.Draft.reopen.Given as goal

abbrev pub invariant-loop-host : goal.invariant-loop-host
invariant-loop-host l = l.self ≡ with_hosts l.fn.self (passed (reopened_row l.fn.self.moment) l.host l.fn.self.farm.hosts)
