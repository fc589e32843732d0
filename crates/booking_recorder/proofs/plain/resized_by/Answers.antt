use Rattle.booking_recorder.proofs.Stopped.{names_then}
use Rattle.booking_recorder.proofs.plain.resized_by.Goals as goal

pub returns : goal.returns
returns c =
    c.resized_in.ensures c.args.entry.now c.requires.legal
    (names_then c.args.farm.now c.args.entry.now c.args.change.now c.requires.makes c.batch.result.now c.batch.ensures)
