use Rattle.std.proofs.Common.{[], ◌∷◌}
use Rattle.booking_table.specs.Holds.{claim_of}
use Rattle.booking_table.specs.Seats.{view}
use Rattle.booking_recorder.proofs.Ahead.{may_withdraw_settled}
use Rattle.booking_recorder.proofs.AloneClaims.{formed_claim, has_claim, let_go, owns_back, went_back}
use Rattle.booking_recorder.proofs.AloneViews.{alone_of, may_return, may_return_room}
use Rattle.booking_recorder.proofs.alone_booking.leave_own.Goals as goal

pub withdraw_claim-requires-clause-formed : goal.withdraw_claim-requires-clause-formed
withdraw_claim-requires-clause-formed c = formed_claim (claim_of c.args.claim) c.requires.ahead.1.formed

pub withdraw_claim-requires-clause-may : goal.withdraw_claim-requires-clause-may
withdraw_claim-requires-clause-may c =
    let was = c.requires.ahead in
    may_withdraw_settled was.0 (view c.args.seat.now) (claim_of c.args.claim) was.1.alone.settled was.2 (formed_claim (claim_of c.args.claim) was.1.formed)

pub drop_claim-requires-clause-may : goal.drop_claim-requires-clause-may
drop_claim-requires-clause-may c =
    let w = view c.withdraw_claim.new.seat in
    may_return [] [] [] (claim_of c.args.claim ∷ []) w
    (owns_back (view c.args.seat.now) w c.args.claim c.requires.ahead c.withdraw_claim.ensures.withdrawn).alone

pub drop_claim-requires-clause-held : goal.drop_claim-requires-clause-held
drop_claim-requires-clause-held c =
    let w = view c.withdraw_claim.new.seat in
    has_claim w c.args.claim (owns_back (view c.args.seat.now) w c.args.claim c.requires.ahead c.withdraw_claim.ensures.withdrawn)

pub drop_claim-requires-clause-room : goal.drop_claim-requires-clause-room
drop_claim-requires-clause-room c =
    let w = view c.withdraw_claim.new.seat in
    may_return_room [] [] [] (claim_of c.args.claim ∷ []) w
    (owns_back (view c.args.seat.now) w c.args.claim c.requires.ahead c.withdraw_claim.ensures.withdrawn).alone c.args.claim.hold.host

pub returns-clause-goes : goal.returns-clause-goes
returns-clause-goes c =
    let u = view c.args.seat.now in
    let v = view c.withdraw_claim.new.seat in
    let o = owns_back u v c.args.claim c.requires.ahead c.withdraw_claim.ensures.withdrawn in
    let_go u v (view c.drop_claim.new.seat) c.args.claim c.drop_claim.result (went_back u v c.args.claim c.withdraw_claim.ensures.withdrawn) o
    (c.drop_claim.ensures.alone (alone_of [] [] [] (claim_of c.args.claim ∷ []) v o.alone) o.next) c.drop_claim.ensures.answer
