use Rattle.std.proofs.Common.{refl}
use Rattle.booking_table.specs.Seats.{view}
use Rattle.booking_cases.proofs.Works.{works_on, dropped_goes}
use Rattle.booking_cases.proofs.advance.drop_claim.Goals as goal

pub returns : goal.returns
returns c =
    let v = view c.args.seat.now in
    let w = view c.drop_claim-dropped.new.seat in
    works_on c.looks_stay_in_the_trail.ensures c.args.table.now c.args.seat.now c.drop_claim-dropped.new.seat c.args.plan.now c.args.work.now _
    c.requires c.drop_claim-dropped.ensures.same
    (dropped_goes v w c.claim_of.result c.drop_claim-dropped.result c.requires.free c.drop_claim-dropped.ensures.answer) refl tt
