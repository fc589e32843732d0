use Rattle.booking_table.specs.Seats.{view}
use Rattle.recording_table.proofs.Writing.{places_most_writes}
use Rattle.recording_table.proofs.placing.place_most.Goals as goal

pub add-requires-clause-writes : goal.add-requires-clause-writes
add-requires-clause-writes c = places_most_writes (view c.args.seat.now) c.args.limit c.args.word.most c.args.word.running c.pack.result c.pack.ensures.word c.requires.may
