use Rattle.booking_table.specs.Seats.{view}
use Rattle.booking_recorder.specs.Claims.{entry_for}
use Rattle.booking_recorder.proofs.Booked.{enters_err, enters_ok, leads_booked, may_enter}
use Rattle.booking_recorder.proofs.claiming.settle.Goals as goal

pub record_claim-requires-clause-may : goal.record_claim-requires-clause-may
record_claim-requires-clause-may c =
    may_enter c.args.farm.now (view c.args.seat.now) c.args.claim c.args.moment c.args.booked c.in-Ok.row c.in-Ok.is c.ranges.moment.fits c.requires.counted
    c.requires.booked

pub returns-in-Ok-clause-leads : goal.returns-in-Ok-clause-leads
returns-in-Ok-clause-leads c =
    let v = c.requires.ahead.0 in
    let w = view c.record_claim.new.seat in
    leads_booked c.args.farm.now v (view c.args.seat.now) w c.args.claim c.args.moment _ c.args.booked c.requires.ahead.2 c.requires.booked
    (enters_ok v w (entry_for c.args.claim c.args.moment) c.args.booked c.in-Ok.row c.in-Ok.is
    (c.record_claim.ensures.entered v c.requires.ahead.1 c.requires.ahead.2))

pub returns-in-Err-clause-leads : goal.returns-in-Err-clause-leads
returns-in-Err-clause-leads c =
    let v = c.requires.ahead.0 in
    let w = view c.take_back.new.seat in
    leads_booked c.args.farm.now v (view c.args.seat.now) w c.args.claim c.args.moment _ c.args.booked c.requires.ahead.2 c.requires.booked
    (enters_err v w (entry_for c.args.claim c.args.moment) c.args.booked c.in-Err.why c.in-Err.is
    (c.take_back.ensures.stays v c.requires.ahead.1 c.requires.ahead.2))
