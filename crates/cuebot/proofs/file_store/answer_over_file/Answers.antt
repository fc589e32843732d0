-- No commit of a keeper over a file was refused.
use Rattle.serving.specs.session.proofs.NewKeepers.{may_open_kept}
use Rattle.sqlite.specs.Files.{file_state}
use Rattle.keeper_sqlite.specs.Told.{Holds, Leaves}
use Rattle.cuebot.proofs.file_store.answer_over_file.Goals as goal

pub answer-status-requires : goal.answer-status-requires
answer-status-requires g c = λ form formed tells.
    let s = file_state c.in-Ok.keeper.conn in
    let kept = c.in-Ok.ensures.kept tells in
    may_open_kept form (c.requires form formed) (Holds s) (Leaves s) (kept.0, kept.2)
