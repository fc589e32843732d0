use Rattle.booking_table.specs.Seats.{view}
use Rattle.recording_table.proofs.Writing.{size_writes}
use Rattle.recording_table.proofs.sizes.set_size.Goals as goal

pub add-requires-clause-writes : goal.add-requires-clause-writes
add-requires-clause-writes c = size_writes (view c.args.seat.now) c.args.host c.args.size.cores c.args.size.memory c.pack.result c.pack.ensures.word c.requires.may
