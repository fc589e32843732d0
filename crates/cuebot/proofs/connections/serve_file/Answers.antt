-- No commit of a keeper over a file was refused.
use Rattle.serving.specs.session.proofs.NewKeepers.{may_open_kept}
use Rattle.serving.specs.session.specs.Words.{Script}
use Rattle.sqlite.specs.Files.{file_state}
use Rattle.keeper_sqlite.specs.Told.{Holds, Leaves}
use Rattle.cuebot.proofs.connections.serve_file.Goals as goal

pub serve_keeper-status-requires-clause-kept : goal.serve_keeper-status-requires-clause-kept
serve_keeper-status-requires-clause-kept g c = λ κs lives asks asked tells.
    let s = file_state c.in-Ok.keeper.conn in
    let kept = c.in-Ok.ensures.kept tells in
    may_open_kept (Script asks.store) tt (Holds s) (Leaves s) (kept.0, kept.2)
