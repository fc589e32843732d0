use Rattle.booking_table.specs.Holds.{claim_of}
use Rattle.booking_table.specs.Seats.{view}
use Rattle.booking_recorder.proofs.Ahead.{may_withdraw, rests_back, stays_back}
use Rattle.booking_recorder.proofs.claiming.take_back.Goals as goal

pub withdraw_claim-requires-clause-may : goal.withdraw_claim-requires-clause-may
withdraw_claim-requires-clause-may c = may_withdraw (view c.args.seat.now) (claim_of c.args.claim.now) c.requires.ahead c.requires.formed

pub returns-clause-rests : goal.returns-clause-rests
returns-clause-rests c =
    rests_back (view c.args.seat.now) (view c.withdraw_claim.new.seat) (claim_of c.args.claim.now) c.requires.ahead c.withdraw_claim.ensures.withdrawn

pub returns-clause-stays : goal.returns-clause-stays
returns-clause-stays c =
    λ v rests ahead.
    stays_back v (view c.args.seat.now) (view c.withdraw_claim.new.seat) (claim_of c.args.claim.now) ahead c.withdraw_claim.ensures.withdrawn
