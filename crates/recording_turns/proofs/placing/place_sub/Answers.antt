use Rattle.std.proofs.Common.{[], ap, ◌∙◌}
use Rattle.farm_types.specs.Farm.{Farm}
use Rattle.farm_types.specs.Sums.{booked_in}
use Rattle.booking_table.specs.Seats.{view}
use Rattle.recording_turns.proofs.PlacingAsks.{burst_may}
use Rattle.recording_turns.proofs.PlacingSteps.{burst_left}
use Rattle.recording_turns.proofs.placing.place_sub.Goals as goal

pub place_burst-requires-clause-may : goal.place_burst-requires-clause-may
place_burst-requires-clause-may c =
    burst_may c.args.farm.now c.kept.ensures.rows (c.used_is_running.ensures c.args.farm.now c.kept.ensures) (view c.args.seat.now) c.args.sub
    c.burst.result c.booked.result c.requires.placing c.requires.within c.burst.ensures.burst
    (c.booked.ensures ∙ ap (λ (f : Farm). booked_in f c.args.sub) c.books.ensures.farm)

pub returns-clause-placing : goal.returns-clause-placing
returns-clause-placing c =
    (burst_left c.args.farm.now 4096 c.args.sub 0 [] (view c.args.seat.now) (view c.place_burst.new.seat) c.requires.placing
    c.burst.result c.booked.result c.place_burst.ensures.placed).0
