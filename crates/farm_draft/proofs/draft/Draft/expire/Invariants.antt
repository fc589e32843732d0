use Rattle.std.proofs.Common.{◌≡◌}
use Rattle.farm_draft.specs.Drafted.{with_farm}
use Rattle.farm_draft.proofs.Expired.{expired_below}
use Rattle.farm_draft.proofs.draft.Draft.expire.Given as goal

abbrev pub invariant-loop-host : goal.invariant-loop-host
invariant-loop-host l = l.self ≡ with_farm l.fn.self (expired_below l.fn.self.farm l.fn.self.moment l.host)
