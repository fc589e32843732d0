use Rattle.std.proofs.Common.{subst, sym}
use Rattle.booking_table.specs.Seats.{view}
use Rattle.booking_recorder.specs.Alone.{EntersClaim}
use Rattle.booking_recorder.specs.Claims.{entry_for}
use Rattle.booking_recorder.proofs.AloneBooked.{leads_own}
use Rattle.booking_recorder.proofs.AloneViews.{rests_alone}
use Rattle.booking_recorder.proofs.Booked.{may_enter}
use Rattle.booking_recorder.proofs.alone_booking.settle_own.Goals as goal

pub record_own-requires-clause-may : goal.record_own-requires-clause-may
record_own-requires-clause-may c =
    may_enter c.args.farm.now (view c.args.seat.now) c.args.claim c.args.moment c.args.booked c.in-Ok.row c.in-Ok.is c.ranges.moment.fits c.requires.counted
    c.requires.booked

pub returns-in-Ok-clause-leads : goal.returns-in-Ok-clause-leads
returns-in-Ok-clause-leads c =
    let u = view c.args.seat.now in
    let w = view c.record_own.new.seat in
    leads_own c.args.farm.now u w _ c.args.claim.slot c.args.claim.hold.host c.args.moment c.args.booked c.requires.booked
    (subst (λ r. EntersClaim u (entry_for c.args.claim c.args.moment) r w) (sym c.in-Ok.is) c.record_own.ensures.entered)

pub returns-in-Ok-clause-journal : goal.returns-in-Ok-clause-journal
returns-in-Ok-clause-journal c =
    subst (λ r. EntersClaim (view c.args.seat.now) (entry_for c.args.claim c.args.moment) r (view c.record_own.new.seat)) (sym c.in-Ok.is)
    c.record_own.ensures.entered

pub returns-in-Err-clause-rests : goal.returns-in-Err-clause-rests
returns-in-Err-clause-rests c = rests_alone (view c.leave_own.new.seat) c.leave_own.ensures.goes.alone

pub returns-in-Err-clause-leads : goal.returns-in-Err-clause-leads
returns-in-Err-clause-leads c =
    let u = view c.args.seat.now in
    let w = view c.leave_own.new.seat in
    leads_own c.args.farm.now u w _ c.args.claim.slot c.args.claim.hold.host c.args.moment c.args.booked c.requires.booked
    (subst (λ r. EntersClaim u (entry_for c.args.claim c.args.moment) r w) (sym c.in-Err.is) c.leave_own.ensures.goes.went)

pub returns-in-Err-clause-journal : goal.returns-in-Err-clause-journal
returns-in-Err-clause-journal c =
    subst (λ r. EntersClaim (view c.args.seat.now) (entry_for c.args.claim c.args.moment) r (view c.leave_own.new.seat)) (sym c.in-Err.is)
    c.leave_own.ensures.goes.went
