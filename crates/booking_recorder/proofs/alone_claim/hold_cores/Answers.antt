use Rattle.std.proofs.Common.{[]}
use Rattle.booking_table.specs.Seats.{view}
use Rattle.booking_recorder.proofs.AloneFarms.{burst_lost}
use Rattle.booking_recorder.proofs.AloneViews.{alone_of, cores_lost, cores_taken, may_take}
use Rattle.booking_recorder.proofs.alone_claim.hold_cores.Goals as goal

pub take_burst-requires-clause-free : goal.take_burst-requires-clause-free
take_burst-requires-clause-free c = may_take [] [] [] [] (view c.args.seat.now) c.requires.free

pub take_burst-requires-clause-amounts : goal.take_burst-requires-clause-amounts
take_burst-requires-clause-amounts c = (c.requires.wanted.of_sub, c.requires.wanted.cores)

pub returns-in-Ok-clause-answer : goal.returns-in-Ok-clause-answer
returns-in-Ok-clause-answer c = (
  c.in-Ok.ensures.answer.0,
  cores_taken (view c.args.seat.now) (view c.take_burst.new.seat) c.args.sub c.args.seen.now.cores c.requires.free c.in-Ok.ensures.answer.1,
)

pub returns-in-Err-clause-answer : goal.returns-in-Err-clause-answer
returns-in-Err-clause-answer c =
    let v = view c.args.seat.now in
    record {
      lost = tt;
      may = burst_lost c.args.farm.now c.args.seen.now.slot c.args.host c.args.sub c.args.seen.now c.requires.wanted v c.requires.leads c.in-Err.why
          c.requires.free (c.in-Err.ensures.alone (alone_of [] [] [] [] v c.requires.free)) c.in-Err.ensures.answer.4;
      goes = cores_lost v (view c.take_burst.new.seat) c.args.sub c.args.seen.now.cores c.requires.free c.in-Err.why c.in-Err.ensures.answer;
    }
