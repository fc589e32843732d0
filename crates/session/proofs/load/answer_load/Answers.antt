-- The farm keeps what every farm keeps, so that the load's entries are safe; and what the recorder's keeper holds is given back.
use Rattle.std.proofs.Common.{ℕ, sym, ap, subst}
use Rattle.farm_types.specs.Farm.{Farm}
use Rattle.farm_types.specs.Kept.{IsKeptFarm}
use Rattle.farm_load.specs.booking_recorder.specs.Going.{Journals}
use Rattle.booking_rule.specs.declared.view.View.{View}
use Rattle.session.specs.Loads.{AnswersLoad}
use Rattle.session.specs.Opening.{HoldsFarm}
use Rattle.session.proofs.LoadLemmas.{answers_load}
use Rattle.session.proofs.SeatLemmas.{load_room}
use Rattle.session.proofs.load.answer_load.Goals as goal

pub run_load-ended-requires-clause-room : goal.run_load-ended-requires-clause-room
run_load-ended-requires-clause-room g c = load_room c.args.recorder.view c.requires.room

pub returns-clause-answered : goal.returns-clause-answered
returns-clause-answered g c =
    let first : Farm = c.args.recorder.farm in
    let before : ℕ = g.K.Keeper.faults c.args.recorder.keeper in
    let told = c.tell_end.ensures.told in
    let holds : Farm → Type 0 = HoldsFarm (g.K.Keeper.tells c.close-keeper.result.0) (g.K.Keeper.holds c.close-keeper.result.0) (g.K.Keeper.left c.close-keeper.result.0) in
    let seen : View = c.run_load-ended.new.recorder.view in (
      told.0,
      told.1,
      subst (λ (v : View). AnswersLoad c.args.n first c.tell_end.result told.0 before (g.K.Keeper.faults c.close-keeper.result.0) holds (Journals c.args.recorder.view v)) (sym c.close-keeper.ensures.seat.1)
          (subst (λ (faults : ℕ). AnswersLoad c.args.n first c.tell_end.result told.0 before faults holds (Journals c.args.recorder.view seen))
          (ap g.K.Keeper.faults (sym c.close-keeper.ensures.keeper))
          (answers_load c.args.n c.tell_end.result first c.run_load-ended.new.recorder.farm c.run_load-ended.result told.0 before
          (g.K.Keeper.faults c.run_load-ended.new.recorder.keeper) holds (Journals c.args.recorder.view seen) (subst IsKeptFarm c.read.ensures c.kept.ensures) c.loads_are_legal.ensures.legal c.legal_runs_are_safe.ensures
          c.run_load-ended.ensures.run told.2 c.close-keeper.ensures.recorded)),
    )
