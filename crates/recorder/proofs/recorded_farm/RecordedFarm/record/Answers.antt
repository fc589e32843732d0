use Rattle.std.proofs.Common.{[], subst, sym, ◌∷◌}
use Rattle.farm_types.specs.Farm.{Farm}
use Rattle.farm_core.specs.Change.{after_change}
use Rattle.recorder.specs.Faults.{is_store_fault}
use Rattle.recorder.specs.Recording.{IsOfEntry, Records}
use Rattle.recorder.proofs.Recorded.{farm_is, goes_of, same_entry}
use Rattle.recorder.proofs.Told.{told_of}
use Rattle.recorder.proofs.recorded_farm.RecordedFarm.record.Goals as goal

pub record_in-requires : goal.record_in-requires
record_in-requires g c = subst (λ (f : Farm). IsOfEntry f c.args.entry.now c.args.change) (sym (farm_is c.self.view_is)) c.requires

pub invariant_of-self : goal.invariant_of-self
invariant_of-self g c = λ tells. c.record_in.ensures.kept (c.self.invariant (c.record_in.ensures.keeper.told tells))

pub returns-clause-farm : goal.returns-clause-farm
returns-clause-farm g c =
    subst (λ (f : Farm). Records f (after_change f c.args.change) c.record_in.result c.record_in.new.farm) (farm_is c.self.view_is) c.record_in.ensures.farm

pub returns-clause-keeper : goal.returns-clause-keeper
returns-clause-keeper g c =
    goes_of g.K.Keeper.tells g.K.Keeper.faults c.record_in.new.keeper (is_store_fault c.record_in.result) c.self.view_is c.record_in.ensures.keeper

pub returns-clause-same : goal.returns-clause-same
returns-clause-same g c = same_entry c.args.entry.now c.record_in.new.keeper c.self.view_is c.record_in.ensures.same

pub returns-clause-told : goal.returns-clause-told
returns-clause-told g c =
    told_of g.K.Keeper.commits (λ (f : Farm). c.args.entry.now ∷ []) c.record_in.new.keeper c.record_in.result c.self.view_is c.record_in.ensures.told
