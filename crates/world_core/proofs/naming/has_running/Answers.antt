use Rattle.std.proofs.Common.{◌≡◌, None, Some, rules}
use Rattle.std.specs.Prelude.{slice_get}
use Rattle.world_core.proofs.Named.{running_none, running_there}
use Rattle.world_core.proofs.naming.has_running.Goals as goal

pub returns-in_default : goal.returns-in_default
returns-in_default c =
    let none : slice_get c.args.hosts.now c.args.host ≡ None = search rules in
    running_none (slice_get c.args.hosts.now c.args.host) c.args.attempt.now none

pub returns : goal.returns
returns c =
    let there : slice_get c.args.hosts.now c.args.host ≡ Some c.in-Some.own.now = search rules in
    running_there (slice_get c.args.hosts.now c.args.host) c.in-Some.own.now c.args.attempt.now c.is_running.result there c.is_running.ensures
