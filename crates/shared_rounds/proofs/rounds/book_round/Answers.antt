use Rattle.std.proofs.Common.{◌∙◌}
use Rattle.std.specs.Vec.{vec_capacity}
use Rattle.booking_rule.specs.Kept.{farm_in}
use Rattle.shared_rounds.proofs.Ended.{plan_length, planned_booked}
use Rattle.shared_rounds.proofs.rounds.book_round.Goals as goal

pub walk-requires-clause-room : goal.walk-requires-clause-room
walk-requires-clause-room g c =
    plan_length (farm_in c.take_plan.new.pass.view) c.args.host (vec_capacity c.in-Ok-with_capacity.outcomes) c.as_slice.result.now
    (c.as_slice.ensures ∙ c.in-Ok.ensures.plan) c.in-Ok-with_capacity.ensures.capacity

pub returns-clause-booked : goal.returns-clause-booked
returns-clause-booked g c =
    planned_booked c.args.pass.now c.take_plan.new.pass c.walk.new.pass c.args.moment c.walk.result.outcomes c.take_plan.ensures.caught c.walk.ensures.booked
