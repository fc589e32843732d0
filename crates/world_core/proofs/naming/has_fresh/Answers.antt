use Rattle.std.proofs.Common.{◌≡◌, Some, rules}
use Rattle.std.specs.Prelude.{slice_get}
use Rattle.world_core.proofs.Named.{fresh_there}
use Rattle.world_core.proofs.naming.has_fresh.Goals as goal

pub returns : goal.returns
returns c =
    let there : slice_get c.args.hosts.now c.args.host ≡ Some c.in-Some.own.now = search rules in
    fresh_there (slice_get c.args.hosts.now c.args.host) c.in-Some.own.now c.args.nonce c.is_fresh.result there c.is_fresh.ensures
