use Rattle.booking_table.specs.Seats.{view}
use Rattle.booking_recorder.proofs.AloneClaims.{none_placed}
use Rattle.booking_recorder.proofs.alone_claim.hold_place.Goals as goal

pub returns-in-None-clause-answer : goal.returns-in-None-clause-answer
returns-in-None-clause-answer c =
    none_placed c.args.farm.now c.args.sub c.args.host c.args.seen.now c.requires.wanted c.args.burst (view c.args.seat.now) c.in-None.is c.requires.burst
    c.requires.held
