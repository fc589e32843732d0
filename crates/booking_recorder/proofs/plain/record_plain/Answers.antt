use Rattle.farm_keeper.proofs.KeepingLaws.{Continues-as}
use Rattle.farm_core.specs.Change.{after_change}
use Rattle.booking_recorder.specs.Faults.{is_store_fault}
use Rattle.booking_recorder.proofs.Stopped.{never_held_plain, records_plain, store_plain, told_plain, unheld_plain, unspent_plain}
use Rattle.booking_recorder.proofs.plain.record_plain.Goals as goal

pub returns-in_err-record-clause-farm : goal.returns-in_err-record-clause-farm
returns-in_err-record-clause-farm g c =
    records_plain c.args.plain.now.farm (after_change c.args.plain.now.farm c.args.change) c.record.new.self.farm _ c.from_residual.result
    c.from_residual.ensures.1
    c.in_err-record.ensures.farm

pub returns-in_err-record-clause-keeper : goal.returns-in_err-record-clause-keeper
returns-in_err-record-clause-keeper g c =
    Continues-as g.K.Keeper.tells g.K.Keeper.faults c.args.plain.now.keeper c.record.new.self.keeper _ (is_store_fault c.from_residual.result)
    (store_plain _ c.from_residual.result c.from_residual.ensures.1) c.in_err-record.ensures.keeper

pub returns-in_err-record-clause-told : goal.returns-in_err-record-clause-told
returns-in_err-record-clause-told g c =
    told_plain g.K.Keeper.commits c.args.plain.now.farm c.args.entry.now c.args.plain.now.keeper c.record.new.self.keeper _ c.from_residual.result
    c.from_residual.ensures.1 c.in_err-record.ensures.told

pub returns-clause-farm : goal.returns-clause-farm
returns-clause-farm g c = c.in_ok-record.ensures.farm

pub returns-clause-told : goal.returns-clause-told
returns-clause-told g c = c.in_ok-record.ensures.told

pub returns-in_err-record-clause-unspent : goal.returns-in_err-record-clause-unspent
returns-in_err-record-clause-unspent g c = unspent_plain _ c.from_residual.result c.from_residual.ensures.1

pub returns-in_err-record-clause-unheld : goal.returns-in_err-record-clause-unheld
returns-in_err-record-clause-unheld g c =
    λ v w. unheld_plain c.args.plain.now.farm c.args.entry.now v w _ c.from_residual.result c.from_residual.ensures.1

pub returns-in_err-record-clause-never_held : goal.returns-in_err-record-clause-never_held
returns-in_err-record-clause-never_held g c = never_held_plain _ c.from_residual.result c.from_residual.ensures.1
