use Rattle.std.proofs.Common.{◌≡◌, None, Some, rules}
use Rattle.std.specs.Prelude.{slice_get}
use Rattle.world_core.proofs.Named.{told_host, told_none}
use Rattle.world_core.proofs.naming.has_told.Goals as goal

pub returns-in_default : goal.returns-in_default
returns-in_default c =
    let none : slice_get c.args.told.now c.args.line ≡ None = search rules in
    told_none (slice_get c.args.told.now c.args.line) c.args.hosts.now none

pub returns : goal.returns
returns c =
    let there : slice_get c.args.told.now c.args.line ≡ Some c.in-Some.told.now = search rules in
    told_host (slice_get c.args.told.now c.args.line) c.in-Some.told.now c.args.hosts.now c.has_host.result there c.has_host.ensures
