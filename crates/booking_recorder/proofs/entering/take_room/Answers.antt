use Rattle.booking_recorder.proofs.Ready.{resized_there}
use Rattle.booking_recorder.proofs.entering.take_room.Goals as goal

pub take_size-requires-clause-there : goal.take_size-requires-clause-there
take_size-requires-clause-there c = resized_there c.args.farm.now c.args.resized.now c.in-Some.host c.in-Some.is c.requires.resizes
