use Rattle.std.proofs.Common.{sym, ap, subst, ◌∙◌}
use Rattle.farm_types.specs.Farm.{Farm}
use Rattle.farm_types.specs.Kept.{IsKeptFarm}
use Rattle.booking_table.specs.Seats.{view}
use Rattle.recording_core.specs.Records.{opened}
use Rattle.recording_turns.proofs.PlacingAsks.{opens_may}
use Rattle.recording_turns.proofs.OpeningDone.{closes_may, is_placed, opened_placing}
use Rattle.recording_turns.proofs.placing.place_as.Goals as goal

pub open_farm-requires-clause-may : goal.open_farm-requires-clause-may
open_farm-requires-clause-may g c =
    opens_may g.E.Opens.farm (view c.args.seat.now) c.requires.unplaced (subst IsKeptFarm (sym c.requires.farm) c.kept.ensures)

pub place_all-requires-clause-placing : goal.place_all-requires-clause-placing
place_all-requires-clause-placing g c =
    opened_placing c.args.farm.now (view c.args.seat.now) (view c.open_farm.new.seat) c.requires.unplaced
    (c.open_farm.ensures.opened ∙ ap (λ (f : Farm). opened (view c.args.seat.now) f 0) c.requires.farm)

pub close_opening-requires-clause-may : goal.close_opening-requires-clause-may
close_opening-requires-clause-may g c = closes_may c.args.farm.now c.kept.ensures.rows (view c.place_all.new.seat) c.place_all.ensures.placed

pub returns-clause-placed : goal.returns-clause-placed
returns-clause-placed g c =
    is_placed c.args.farm.now c.kept.ensures.rows (view c.args.seat.now) (view c.open_farm.new.seat) (view c.place_all.new.seat) (view c.close_opening.new.seat)
    c.requires.unplaced (c.open_farm.ensures.opened ∙ ap (λ (f : Farm). opened (view c.args.seat.now) f 0) c.requires.farm)
    c.place_all.ensures.onward c.place_all.ensures.placed c.close_opening.ensures.closed
