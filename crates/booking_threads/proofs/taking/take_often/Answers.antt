use Rattle.booking_table.specs.Seats.{view}
use Rattle.booking_threads.proofs.Stays.{may_take}
use Rattle.booking_threads.proofs.taking.take_often.Goals as goal

pub take_once-requires-clause-free : goal.take_once-requires-clause-free
take_once-requires-clause-free c = may_take (view c.args.seat.now) (view c.loop-time.seat) c.loop-time.invariant.free c.requires.free.0 c.requires.free.1
