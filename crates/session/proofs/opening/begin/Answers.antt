-- What was recorded over the recorder that was made of the farm and its keeper.
use Rattle.std.proofs.Common.{sym, subst}
use Rattle.farm_types.specs.Farm.{Farm}
use Rattle.farm_types.specs.Run.{IsLegal}
use Rattle.booking_table.specs.Seats.{view}
use Rattle.session.specs.Words.{opening_entries, word_form}
use Rattle.session.proofs.OpenedWays.{begun_part, begun_whole}
use Rattle.session.proofs.SeatLemmas.{opening_room, placed_begun}
use Rattle.session.proofs.opening.begin.Goals as goal

pub record_opening-requires-clause-legal : goal.record_opening-requires-clause-legal
record_opening-requires-clause-legal g c =
    subst (λ (f : Farm). IsLegal f (opening_entries (word_form c.args.form) c.args.moment)) (sym c.make-recorder.ensures.farm) c.requires.legal

pub record_opening-requires-clause-alone : goal.record_opening-requires-clause-alone
record_opening-requires-clause-alone g c = c.make-recorder.ensures.placed.split

pub record_opening-requires-clause-room : goal.record_opening-requires-clause-room
record_opening-requires-clause-room g c =
    let made = c.make-recorder.result in
    opening_room (word_form c.args.form) c.args.moment made.view c.args.farm
    (placed_begun (view c.args.seat) made.view c.args.farm c.requires.unplaced c.make-recorder.ensures.placed)

pub returns-in-Ok : goal.returns-in-Ok
returns-in-Ok g c =
    let made = c.make-recorder.result in
    begun_whole g.K.Keeper.tells g.K.Keeper.holds g.K.Keeper.left g.K.Keeper.faults (word_form c.args.form) c.args.moment c.args.farm c.args.keeper made
    c.record_opening.new.recorder c.make-recorder.ensures.farm c.make-recorder.ensures.keeper
    (placed_begun (view c.args.seat) made.view c.args.farm c.requires.unplaced c.make-recorder.ensures.placed) c.in-Ok.ensures.farm c.in-Ok.ensures.journal c.in-Ok.ensures.keeper

pub returns-in-Err : goal.returns-in-Err
returns-in-Err g c =
    begun_part g.K.Keeper.tells g.K.Keeper.holds g.K.Keeper.left g.K.Keeper.faults (word_form c.args.form) c.args.moment c.args.farm c.args.keeper c.make-recorder.result
    c.record_opening.new.recorder c.make-recorder.ensures.farm c.make-recorder.ensures.keeper c.close-keeper.result.0 c.in-Err.fault c.of_record.result c.of_record.ensures
    c.in-Err.ensures.farm c.close-keeper.ensures.keeper c.close-keeper.ensures.recorded c.in-Err.ensures.keeper
