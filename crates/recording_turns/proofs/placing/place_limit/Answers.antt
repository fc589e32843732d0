use Rattle.std.proofs.Common.{◌<◌, [], length, sym, ap, subst, ◌∙◌}
use Rattle.farm_types.specs.Farm.{Farm}
use Rattle.farm_types.specs.Sums.{running_in}
use Rattle.booking_table.specs.Seats.{view}
use Rattle.recording_turns.proofs.PlacingAsks.{most_may}
use Rattle.recording_turns.proofs.PlacingSteps.{most_left}
use Rattle.recording_turns.proofs.placing.place_limit.Goals as goal

pub place_most-requires-clause-may : goal.place_most-requires-clause-may
place_most-requires-clause-may c =
    let same = c.books.ensures.farm in
    most_may c.args.farm.now c.kept.ensures.rows (c.used_is_running.ensures c.args.farm.now c.kept.ensures) (view c.args.seat.now) c.args.limit
    c.most.result c.running.result c.requires.placing c.requires.within c.most.ensures.most
    (c.running.ensures (subst (λ (f : Farm). c.args.limit < length f.limits) (sym same) c.requires.there) ∙ ap (λ (f : Farm). running_in f c.args.limit) same)

pub returns-clause-placing : goal.returns-clause-placing
returns-clause-placing c =
    (most_left c.args.farm.now 4096 1024 c.args.limit [] (view c.args.seat.now) (view c.place_most.new.seat) c.requires.placing
    c.most.result c.running.result c.place_most.ensures.placed).0
