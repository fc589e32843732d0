-- The keeper is new, so that a farm may be opened in it.
use Rattle.serving.specs.session.proofs.NewKeepers.{may_open}
use Rattle.serving.specs.session.specs.Words.{Script}
use Rattle.cuebot.proofs.connections.serve_memory.Goals as goal

pub serve_keeper-status-requires-clause-kept : goal.serve_keeper-status-requires-clause-kept
serve_keeper-status-requires-clause-kept g c = λ κs lives asks asked tells. may_open c.in-Ok.keeper _ c.in-Ok.ensures (Script asks.store)
