use Rattle.std.proofs.Common.{[], ◌∷◌, subst, sym}
use Rattle.std.specs.Prelude.{None}
use Rattle.farm_types.specs.Farm.{Farm}
use Rattle.farm_types.specs.Kept.{IsKeptFarm}
use Rattle.booking_rule.specs.Kept.{farm_in}
use Rattle.booking_table.specs.Holds.{claim_of}
use Rattle.booking_table.specs.Seats.{view}
use Rattle.recording_table.specs.Booking.{IsAllowed}
use Rattle.booking_recorder.proofs.Ahead.{can_still, may_confirm_settled, may_record_settled}
use Rattle.booking_recorder.proofs.AloneClaims.{can_own, formed_claim, ran_own, went_ahead}
use Rattle.booking_recorder.proofs.AloneViews.{alone_of}
use Rattle.booking_recorder.proofs.alone_booking.run_own.Goals as goal

pub confirm_claim-requires-clause-formed : goal.confirm_claim-requires-clause-formed
confirm_claim-requires-clause-formed c = formed_claim (claim_of c.args.claim.now) c.requires.owns.formed

pub confirm_claim-requires-clause-may : goal.confirm_claim-requires-clause-may
confirm_claim-requires-clause-may c =
    may_confirm_settled (view c.args.seat.now) (claim_of c.args.claim.now) c.requires.owns.alone.settled
    (formed_claim (claim_of c.args.claim.now) c.requires.owns.formed)

pub returns-clause-ahead : goal.returns-clause-ahead
returns-clause-ahead c =
    let v = view c.args.seat.now in
    let k = claim_of c.args.claim.now in
    let e = c.confirm_claim.ensures in
    let ok = e.alone (alone_of [] [] [] (k ∷ []) v c.requires.owns.alone) c.requires.owns.next in
    (v, c.requires.owns, ran_own v (view c.confirm_claim.new.seat) k c.confirm_claim.result e.answer e.can ok)

pub returns-clause-went : goal.returns-clause-went
returns-clause-went c =
    let v = view c.args.seat.now in
    let w = view c.confirm_claim.new.seat in
    let k = claim_of c.args.claim.now in
    let e = c.confirm_claim.ensures in
    let ok = e.alone (alone_of [] [] [] (k ∷ []) v c.requires.owns.alone) c.requires.owns.next in
    went_ahead v w k (ran_own v w k c.confirm_claim.result e.answer e.can ok)

pub returns-clause-can : goal.returns-clause-can
returns-clause-can c =
    let v = view c.args.seat.now in
    let k = claim_of c.args.claim.now in
    let e = c.confirm_claim.ensures in
    let ok = e.alone (alone_of [] [] [] (k ∷ []) v c.requires.owns.alone) c.requires.owns.next in
    let can = can_own v k c.confirm_claim.result e.can ok in
    let kept : IsKeptFarm (farm_in v) = subst IsKeptFarm c.requires.leads c.kept.ensures in
    let place = c.claims_can_be_booked.ensures.placed v k None kept (may_record_settled v c.requires.owns.alone.settled) can in
    can_still c.args.farm.now (farm_in v) k.slot k.host c.requires.leads (c.claims_can_be_booked.ensures.allowed (farm_in v) k.slot k.host kept place)
    (c.claims_can_be_booked.ensures.reason (farm_in v) k.slot k.host kept place)

pub returns-clause-allowed : goal.returns-clause-allowed
returns-clause-allowed c =
    let v = view c.args.seat.now in
    let k = claim_of c.args.claim.now in
    let e = c.confirm_claim.ensures in
    let ok = e.alone (alone_of [] [] [] (k ∷ []) v c.requires.owns.alone) c.requires.owns.next in
    let can = can_own v k c.confirm_claim.result e.can ok in
    let kept : IsKeptFarm (farm_in v) = subst IsKeptFarm c.requires.leads c.kept.ensures in
    let place = c.claims_can_be_booked.ensures.placed v k None kept (may_record_settled v c.requires.owns.alone.settled) can in
    subst (λ (f : Farm). IsAllowed f k.slot k.host) (sym c.requires.leads) (c.claims_can_be_booked.ensures.allowed (farm_in v) k.slot k.host kept place)
