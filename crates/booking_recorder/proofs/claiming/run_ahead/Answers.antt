use Rattle.std.proofs.Common.{subst}
use Rattle.std.specs.Prelude.{None}
use Rattle.farm_types.specs.Kept.{IsKeptFarm}
use Rattle.booking_rule.specs.Kept.{farm_in}
use Rattle.booking_table.specs.Holds.{claim_of}
use Rattle.booking_table.specs.Seats.{view}
use Rattle.booking_recorder.proofs.Ahead.{can_still, may_confirm, may_record_at_rest}
use Rattle.booking_recorder.proofs.Booked.{ran}
use Rattle.booking_recorder.proofs.claiming.run_ahead.Goals as goal

pub confirm_claim-requires-clause-may : goal.confirm_claim-requires-clause-may
confirm_claim-requires-clause-may c = may_confirm (view c.args.seat.now) (claim_of c.args.claim.now) c.requires.rests c.requires.formed

pub returns-clause-answer : goal.returns-clause-answer
returns-clause-answer c =
    let v = view c.args.seat.now in
    let k = claim_of c.args.claim.now in
    let kept : IsKeptFarm (farm_in v) = subst IsKeptFarm c.requires.leads c.kept.ensures in
    ran c.args.farm.now v (view c.confirm_claim.new.seat) c.args.claim.now c.confirm_claim.result c.confirm_claim.ensures.answer c.confirm_claim.ensures.can
    (λ can.
    let place = c.claims_can_be_booked.ensures.placed v k None kept (may_record_at_rest v c.requires.rests) can in
    can_still c.args.farm.now (farm_in v) k.slot k.host c.requires.leads (c.claims_can_be_booked.ensures.allowed (farm_in v) k.slot k.host kept place)
    (c.claims_can_be_booked.ensures.reason (farm_in v) k.slot k.host kept place))
