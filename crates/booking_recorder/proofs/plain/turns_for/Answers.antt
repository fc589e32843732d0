use Rattle.booking_recorder.proofs.Stopped.{covers_of}
use Rattle.booking_recorder.proofs.plain.turns_for.Goals as goal

pub returns-clause-covers : goal.returns-clause-covers
returns-clause-covers c =
    covers_of c.args.farm.now c.args.entry.now c.args.change.now c.requires.makes c.batch.result.now c.batch.ensures c.turns_of.result c.turns_of.ensures
    (c.turns_cover.ensures c.args.farm.now c.args.entry.now c.batch.result.now c.kept.ensures c.requires.legal)
