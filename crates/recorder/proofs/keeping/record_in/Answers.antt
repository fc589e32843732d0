use Rattle.std.proofs.Common.{Result, [], ap, subst, sym, ◌∙◌, ◌∷◌}
use Rattle.farm_keeper.proofs.KeepingLaws.{Continues-as}
use Rattle.recorder.specs.Faults.{is_store_fault}
use Rattle.farm_types.specs.Farm.{Farm}
use Rattle.farm_core.specs.Change.{IsReady, IsReserved}
use Rattle.farm_core.proofs.Applying.{ready_reserved}
use Rattle.recorder.proofs.Recorded.{after_reserved, is_reserved, recorded_then, records_at_fault, stays_at_fault}
use Rattle.recorder.proofs.Stays.{recorded_at}
use Rattle.recorder.specs.declared.refusal.RecordFault.{RecordFault}
use Rattle.recorder.specs.Telling.{TellsOf}
use Rattle.recorder.proofs.keeping.record_in.Goals as goal

pub make_ready-requires : goal.make_ready-requires
make_ready-requires g c = c.requires

pub apply-requires-clause-ready : goal.apply-requires-clause-ready
apply-requires-clause-ready g c =
    subst (λ (f : Farm). IsReady f c.make_ready.new.change) (sym c.in-Ok.ensures.farm)
    (subst (IsReady c.args.farm.now) (sym c.in-Ok.ensures.ok) (ready_reserved c.args.farm.now c.args.change c.requires.makes.planned.ready))

pub apply-requires-clause-reserved : goal.apply-requires-clause-reserved
apply-requires-clause-reserved g c = subst IsReserved (sym c.in-Ok.ensures.ok) (is_reserved c.args.change)

pub returns-in-Ok-clause-farm : goal.returns-in-Ok-clause-farm
returns-in-Ok-clause-farm g c =
    c.apply.ensures.farm ∙ after_reserved c.args.farm.now c.make_ready.new.farm c.args.change c.make_ready.new.change c.in-Ok.ensures.farm c.in-Ok.ensures.ok

pub returns-in-Ok-clause-kept : goal.returns-in-Ok-clause-kept
returns-in-Ok-clause-kept g c =
    let is = c.apply.ensures.farm ∙ after_reserved c.args.farm.now c.make_ready.new.farm c.args.change c.make_ready.new.change c.in-Ok.ensures.farm c.in-Ok.ensures.ok in
    λ has.
    recorded_then (g.K.Keeper.holds c.make_ready.new.keeper) (g.K.Keeper.left c.make_ready.new.keeper) c.args.farm.now c.apply.new.self c.args.entry.now c.args.change c.requires.makes is
    (c.in-Ok.ensures.kept has)

pub returns-in-Err-clause-farm : goal.returns-in-Err-clause-farm
returns-in-Err-clause-farm g c =
    records_at_fault (g.K.Keeper.holds c.args.keeper.now) (g.K.Keeper.left c.args.keeper.now) (g.K.Keeper.holds c.make_ready.new.keeper) (g.K.Keeper.left c.make_ready.new.keeper)
    c.args.farm.now c.make_ready.new.farm c.args.entry.now c.args.change c.requires.makes c.in-Err.ensures.farm c.refused.result c.in-Err.fault c.refused.ensures
    c.in-Err.ensures.kept

pub returns-in-Err-clause-kept : goal.returns-in-Err-clause-kept
returns-in-Err-clause-kept g c =
    let holds' = g.K.Keeper.holds c.make_ready.new.keeper in
    let left' = g.K.Keeper.left c.make_ready.new.keeper in
    λ has.
    recorded_at holds' left' c.in-Err.ensures.farm
    (stays_at_fault (g.K.Keeper.holds c.args.keeper.now) (g.K.Keeper.left c.args.keeper.now) holds' left' c.args.farm.now c.args.entry.now c.in-Err.fault
    c.in-Err.ensures.kept has)

pub returns-in-Err-clause-keeper : goal.returns-in-Err-clause-keeper
returns-in-Err-clause-keeper g c =
    Continues-as g.K.Keeper.tells g.K.Keeper.faults c.args.keeper.now c.make_ready.new.keeper _ (is_store_fault c.refused.result)
    (sym (ap is_store_fault c.refused.ensures)) c.in-Err.ensures.keeper

pub returns-in-Err-clause-told : goal.returns-in-Err-clause-told
returns-in-Err-clause-told g c =
    subst (λ (r : Result (Unit {0}) RecordFault). TellsOf g.K.Keeper.commits c.args.farm.now (c.args.entry.now ∷ []) r c.args.keeper.now c.make_ready.new.keeper) (sym c.refused.ensures)
    c.in-Err.ensures.told
