use Rattle.std.proofs.Common.{refl, sym, ◌∙◌, subst}
use Rattle.booking_table.specs.Calls.{claim_by}
use Rattle.booking_table.specs.Holds.{HasClaim, HasHold}
use Rattle.booking_table.specs.Seats.{view}
use Rattle.booking_cases.specs.Holding.{HasHeld, hold_in}
use Rattle.booking_cases.specs.Working.{HasLooked}
use Rattle.booking_cases.proofs.Works.{works_on, claim_goes, claim_held, taken_goes, taken_held}
use Rattle.booking_cases.proofs.advance.claim.Goals as goal

pub returns-in-Ok : goal.returns-in-Ok
returns-in-Ok c =
    let v = view c.args.seat.now in
    let w = view c.claim.new.seat in
    let answer = c.in-Ok.ensures.answer in
    let h = c.hold_of.result in
    let s = c.in-Some.seen in
    let seen = subst (HasLooked v) c.in-Some.is c.requires.looked in
    let has = subst (HasHold v) (sym c.hold_of.ensures) (subst (HasHeld v) c.in-Room.is c.requires.held) in
    works_on c.looks_stay_in_the_trail.ensures c.args.table.now c.args.seat.now c.claim.new.seat c.args.plan.now c.args.work.now _ c.requires
    c.in-Ok.ensures.same
    (claim_goes v w (claim_by h s) c.requires.free answer.1) refl
    (subst (HasClaim w) (sym (c.held_claim.ensures ∙ answer.0)) (claim_held v w h s seen.slot seen.version has answer.1))

pub returns-in-Err : goal.returns-in-Err
returns-in-Err c =
    let v = view c.args.seat.now in
    let w = view c.claim.new.seat in
    let answer = c.in-Err.ensures.answer in
    let claimed = claim_by c.hold_of.result c.in-Some.seen in
    let has = subst (HasHeld v) c.in-Room.is c.requires.held in
    works_on c.looks_stay_in_the_trail.ensures c.args.table.now c.args.seat.now c.claim.new.seat c.args.plan.now c.args.work.now c.args.work.now
    c.requires c.in-Err.ensures.same
    (taken_goes v w claimed c.in-Err.taken c.requires.free answer.1) refl
    (subst (HasHeld w) (sym c.in-Room.is) (taken_held v w claimed (hold_in c.in-Room.room) c.in-Err.taken has answer.1))
