use Rattle.booking_table.specs.Seats.{view}
use Rattle.recording_table.proofs.Writing.{places_burst_writes}
use Rattle.recording_table.proofs.placing.place_burst.Goals as goal

pub add-requires-clause-writes : goal.add-requires-clause-writes
add-requires-clause-writes c = places_burst_writes (view c.args.seat.now) c.args.sub c.args.word.burst c.args.word.booked c.pack.result c.pack.ensures.word c.requires.may
