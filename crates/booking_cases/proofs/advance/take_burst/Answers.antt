use Rattle.std.proofs.Common.{refl, sym, ◌∙◌, subst}
use Rattle.booking_table.specs.Holds.{HasBurst}
use Rattle.booking_table.specs.Seats.{view}
use Rattle.booking_cases.specs.Holding.{HasHeld}
use Rattle.booking_cases.specs.Working.{HasLooked}
use Rattle.booking_cases.proofs.Works.{works_on, burst_goes, burst_held, full_goes}
use Rattle.booking_cases.proofs.advance.take_burst.Goals as goal

pub returns-in-Ok : goal.returns-in-Ok
returns-in-Ok c =
    let v = view c.args.seat.now in
    let w = view c.take_burst.new.seat in
    let answer = c.in-Ok.ensures.answer in
    let sub = c.in-Some-sub_for.sub in
    let cores = c.in-Some.seen.cores in
    let seen = subst (HasLooked v) c.in-Some.is c.requires.looked in
    works_on c.looks_stay_in_the_trail.ensures c.args.table.now c.args.seat.now c.take_burst.new.seat c.args.plan.now c.args.work.now _ c.requires
    c.in-Ok.ensures.same
    (burst_goes v w sub cores c.requires.free answer.1) refl
    (subst (HasBurst w) (sym (c.held_burst.ensures ∙ answer.0)) (burst_held v w sub cores c.in-Some-sub_for.ensures.within seen.cores answer.1))

pub returns-in-Err : goal.returns-in-Err
returns-in-Err c =
    let v = view c.args.seat.now in
    let w = view c.take_burst.new.seat in
    works_on c.looks_stay_in_the_trail.ensures c.args.table.now c.args.seat.now c.take_burst.new.seat c.args.plan.now c.args.work.now c.args.work.now
    c.requires c.in-Err.ensures.same
    (full_goes v w c.in-Some-sub_for.sub c.in-Some.seen.cores c.in-Err.full c.requires.free c.in-Err.ensures.answer) refl
    (subst (HasHeld w) (sym c.in-Nothing.is) tt)
