use Rattle.std.proofs.Common.{◌∙◌, refl, ap}
use Rattle.host_book.specs.Inside.{least_of}
use Rattle.host_book.proofs.KeptHosts.{kept_hosts}
use Rattle.host_book.proofs.Oldest.{since_least}
use Rattle.host_book.proofs.hosts.Hosts.watch.Goals as goal

pub invariant_of-self : goal.invariant_of-self
invariant_of-self c =
    let since = since_least _ _ (c.least-self-inside.ensures ∙ ap least_of c.as_slice.ensures.value) in
    kept_hosts c.self.inside _ c.self.invariant refl refl c.self.invariant.watched_are since refl refl
