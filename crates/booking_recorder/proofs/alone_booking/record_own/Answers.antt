use Rattle.std.proofs.Common.{◌≡◌, ap, sym, subst, ◌∙◌}
use Rattle.farm_types.specs.declared.entry.Act.TheVariants.{Book}
use Rattle.farm_types.specs.declared.entry.Entry.{Entry}
use Rattle.booking_rule.specs.Kept.{farm_in}
use Rattle.booking_table.specs.declared.holds.Hold.{Hold}
use Rattle.booking_table.specs.Holds.{claim_of}
use Rattle.booking_table.specs.Seats.{view}
use Rattle.recording_core.specs.Machine.{MayEnter}
use Rattle.booking_recorder.specs.Alone.{EntersOn}
use Rattle.booking_recorder.specs.Claims.{entry_for}
use Rattle.booking_recorder.proofs.Ahead.{may_book_settled}
use Rattle.booking_recorder.proofs.AloneClaims.{entered_own, formed_claim, rests_own}
use Rattle.booking_recorder.proofs.alone_booking.record_own.Goals as goal

pub record_booking-requires-clause-may : goal.record_booking-requires-clause-may
record_booking-requires-clause-may c =
    let e : Entry = record { moment = c.args.moment; act = Book c.slot.result c.host.result } in
    let is : e ≡ entry_for c.args.claim c.args.moment =
    λ i. record { moment = c.args.moment; act = Book (c.slot.ensures i) ((c.host.ensures ∙ ap (λ (h : Hold). h.host) c.hold.ensures) i) } in
    let was = c.requires.ahead in
    may_book_settled was.0 (view c.args.seat.now) (claim_of c.args.claim) e was.1.alone.settled was.2
    (formed_claim (claim_of c.args.claim) was.1.formed) (subst (MayEnter (view c.args.seat.now)) (sym is) c.requires.may) (ap (λ (x : Entry). x.act) is)

pub returns-clause-rests : goal.returns-clause-rests
returns-clause-rests c =
    let u = view c.args.seat.now in
    let e : Entry = record { moment = c.args.moment; act = Book c.slot.result c.host.result } in
    let is : e ≡ entry_for c.args.claim c.args.moment =
    λ i. record { moment = c.args.moment; act = Book (c.slot.ensures i) ((c.host.ensures ∙ ap (λ (h : Hold). h.host) c.hold.ensures) i) } in
    let may : MayEnter u e = subst (MayEnter u) (sym is) c.requires.may in
    let k = claim_of c.args.claim in
    rests_own u (view c.record_booking.new.seat) c.args.claim e c.record_booking.result c.requires.ahead c.record_booking.ensures.recorded
    (c.books_alone.ensures (farm_in u) e k.slot k.host may.0 (ap (λ (x : Entry). x.act) is))

pub returns-clause-entered : goal.returns-clause-entered
returns-clause-entered c =
    let u = view c.args.seat.now in
    let w = view c.record_booking.new.seat in
    let e : Entry = record { moment = c.args.moment; act = Book c.slot.result c.host.result } in
    let is : e ≡ entry_for c.args.claim c.args.moment =
    λ i. record { moment = c.args.moment; act = Book (c.slot.ensures i) ((c.host.ensures ∙ ap (λ (h : Hold). h.host) c.hold.ensures) i) } in
    subst (λ (x : Entry). EntersOn u x w) is
    (entered_own u w c.args.claim e c.record_booking.result c.requires.ahead c.record_booking.ensures.recorded)
