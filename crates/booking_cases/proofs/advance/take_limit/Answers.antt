use Rattle.std.proofs.Common.{◌<◌, refl, sym, ◌∙◌, subst, rules}
use Rattle.booking_table.specs.Holds.{HasBurst}
use Rattle.booking_table.specs.Seats.{view}
use Rattle.booking_cases.specs.Holding.{HasHeld, burst_in}
use Rattle.booking_cases.proofs.Works.{works_on, limit_goes, limit_held, no_place_goes, no_place_held}
use Rattle.booking_cases.proofs.advance.take_limit.Goals as goal

pub returns-in-Ok : goal.returns-in-Ok
returns-in-Ok c =
    let v = view c.args.seat.now in
    let w = view c.take_limit.new.seat in
    let answer = c.in-Ok.ensures.answer in
    let limit = c.in-Some-limit.limit in
    let within : limit < 255 = search rules in
    let has = subst (HasBurst v) (sym c.burst_of.ensures) (subst (HasHeld v) c.in-Burst.is c.requires.held) in
    works_on c.looks_stay_in_the_trail.ensures c.args.table.now c.args.seat.now c.take_limit.new.seat c.args.plan.now c.args.work.now _ c.requires
    c.in-Ok.ensures.same
    (limit_goes v w limit c.requires.free answer.1) refl
    (subst (HasBurst w) (sym (c.held_burst.ensures ∙ answer.0)) (limit_held v w c.burst_of.result limit within has answer.1))

pub returns-in-Err : goal.returns-in-Err
returns-in-Err c =
    let v = view c.args.seat.now in
    let w = view c.take_limit.new.seat in
    let answer = c.in-Err.ensures.answer in
    let limit = c.in-Some-limit.limit in
    let has = subst (HasHeld v) c.in-Burst.is c.requires.held in
    works_on c.looks_stay_in_the_trail.ensures c.args.table.now c.args.seat.now c.take_limit.new.seat c.args.plan.now c.args.work.now c.args.work.now
    c.requires c.in-Err.ensures.same
    (no_place_goes v w limit c.in-Err.full c.requires.free answer.1) refl
    (subst (HasHeld w) (sym c.in-Burst.is) (no_place_held v w (burst_in c.in-Burst.burst) limit c.in-Err.full has answer.1))
