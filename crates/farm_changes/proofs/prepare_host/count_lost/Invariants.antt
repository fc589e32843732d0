use Rattle.std.proofs.Common.{◌≡◌}
use Rattle.farm_types.specs.Lost.{count_on}
use Rattle.farm_changes.proofs.CountedHosts.{is_silent_below}
use Rattle.farm_changes.proofs.prepare_host.count_lost.Given as goal

abbrev pub invariant-loop-host : goal.invariant-loop-host
invariant-loop-host l = l.count ≡ count_on (is_silent_below l.fn.books.farm l.moment l.host) l.fn.books.farm.slots
