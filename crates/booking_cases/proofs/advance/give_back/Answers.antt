use Rattle.std.proofs.Common.{refl, sym, subst}
use Rattle.booking_table.specs.Seats.{view}
use Rattle.booking_cases.specs.Working.{GoesOn}
use Rattle.booking_cases.proofs.Works.{works_on, back_goes, given_goes}
use Rattle.booking_cases.proofs.advance.give_back.Goals as goal

pub returns-in-Burst : goal.returns-in-Burst
returns-in-Burst c =
    let v = view c.args.seat.now in
    let given = c.give_burst.ensures.given in
    works_on c.looks_stay_in_the_trail.ensures c.args.table.now c.args.seat.now c.give_burst.new.seat c.args.plan.now c.args.work.now _ c.requires
    c.give_burst.ensures.same
    (subst (GoesOn v) (sym given.2) (given_goes v c.burst_of.result given.0 given.1 c.requires.free)) refl tt

pub returns-in-Room : goal.returns-in-Room
returns-in-Room c =
    let v = view c.args.seat.now in
    let given = c.give_back.ensures.given in
    works_on c.looks_stay_in_the_trail.ensures c.args.table.now c.args.seat.now c.give_back.new.seat c.args.plan.now c.args.work.now _ c.requires
    c.give_back.ensures.same
    (subst (GoesOn v) (sym given.3) (back_goes v c.hold_of.result given.0 given.1 given.2 c.requires.free)) refl tt
