use Rattle.booking_table.specs.Seats.{view}
use Rattle.recorder_start.proofs.Begins.{begins}
use Rattle.recorder_start.proofs.on_table.recorder_on.Goals as goal

pub make-requires-clause-unplaced : goal.make-requires-clause-unplaced
make-requires-clause-unplaced g c = begins (view c.args.seat) c.requires.first
