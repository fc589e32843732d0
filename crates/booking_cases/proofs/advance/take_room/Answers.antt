use Rattle.std.proofs.Common.{refl, sym, ◌∙◌, subst}
use Rattle.booking_table.specs.Holds.{HasBurst, HasHold}
use Rattle.booking_table.specs.Seats.{view}
use Rattle.booking_cases.specs.Holding.{HasHeld, burst_in}
use Rattle.booking_cases.specs.Working.{HasLooked}
use Rattle.booking_cases.proofs.Works.{works_on, room_goes, room_held, short_goes, short_held}
use Rattle.booking_cases.proofs.advance.take_room.Goals as goal

pub returns-in-Ok : goal.returns-in-Ok
returns-in-Ok c =
    let v = view c.args.seat.now in
    let w = view c.take_host.new.seat in
    let answer = c.in-Ok.ensures.answer in
    let b = c.burst_of.result in
    let host = c.args.plan.now.host in
    let memory = c.in-Some.seen.memory in
    let seen = subst (HasLooked v) c.in-Some.is c.requires.looked in
    let has = subst (HasBurst v) (sym c.burst_of.ensures) (subst (HasHeld v) c.in-Burst.is c.requires.held) in
    works_on c.looks_stay_in_the_trail.ensures c.args.table.now c.args.seat.now c.take_host.new.seat c.args.plan.now c.args.work.now _ c.requires
    c.in-Ok.ensures.same
    (room_goes v w host b.cores memory c.requires.free answer.1) refl
    (subst (HasHold w) (sym (c.held_room.ensures ∙ answer.0)) (room_held v w b host memory c.requires.within seen.memory has answer.1))

pub returns-in-Err : goal.returns-in-Err
returns-in-Err c =
    let v = view c.args.seat.now in
    let w = view c.take_host.new.seat in
    let answer = c.in-Err.ensures.answer in
    let b = c.burst_of.result in
    let host = c.args.plan.now.host in
    let memory = c.in-Some.seen.memory in
    let has = subst (HasHeld v) c.in-Burst.is c.requires.held in
    works_on c.looks_stay_in_the_trail.ensures c.args.table.now c.args.seat.now c.take_host.new.seat c.args.plan.now c.args.work.now c.args.work.now
    c.requires c.in-Err.ensures.same
    (short_goes v w host b.cores memory c.in-Err.short c.requires.free answer.2) refl
    (subst (HasHeld w) (sym c.in-Burst.is) (short_held v w (burst_in c.in-Burst.burst) host b.cores memory c.in-Err.short has answer.2))
