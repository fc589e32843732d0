use Rattle.booking_table.specs.Seats.{view}
use Rattle.recording_table.proofs.Writing.{most_writes}
use Rattle.recording_table.proofs.sizes.set_most.Goals as goal

pub add-found-requires-clause-writes : goal.add-found-requires-clause-writes
add-found-requires-clause-writes c = most_writes (view c.args.seat.now) c.args.limit c.args.old c.args.new c.difference.result c.difference.ensures.difference c.requires.may
