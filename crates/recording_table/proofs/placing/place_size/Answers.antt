use Rattle.booking_table.specs.Seats.{view}
use Rattle.recording_table.proofs.Writing.{places_size_writes}
use Rattle.recording_table.proofs.placing.place_size.Goals as goal

pub add-requires-clause-writes : goal.add-requires-clause-writes
add-requires-clause-writes c = places_size_writes (view c.args.seat.now) c.args.host c.args.free.cores c.args.free.memory c.pack.result c.pack.ensures.word c.requires.may
