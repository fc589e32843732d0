use Rattle.std.proofs.Common.{ap, false, sym}
use Rattle.fault_counts.specs.Counts.{incremented_if}
use Rattle.farm_keeper.proofs.KeepingLaws.{Continues-as, Continues-same}
use Rattle.booking_recorder.specs.Faults.{is_store_refusal}
use Rattle.booking_recorder.proofs.Stopped.{alone_farm, commits_made, commits_nothing, never_store, none_held, nothing_entered, of_entry, told_farm, unbooked_condition}
use Rattle.booking_recorder.proofs.farm_recorder.Recorder.commit.Goals as goal

pub prepare-requires-clause-condition : goal.prepare-requires-clause-condition
prepare-requires-clause-condition g c = unbooked_condition c.args.self.now.farm c.args.entry.now.act c.requires.unbooked

pub record_answered-requires-clause-of_entry : goal.record_answered-requires-clause-of_entry
record_answered-requires-clause-of_entry g c =
    of_entry c.args.self.now.farm c.args.entry.now c.in_ok-change.change c.requires.formed
    (unbooked_condition c.args.self.now.farm c.args.entry.now.act c.requires.unbooked) c.in_ok-change.ensures

pub returns-in_err-change-clause-farm : goal.returns-in_err-change-clause-farm
returns-in_err-change-clause-farm g c =
    commits_nothing c.args.self.now.farm c.args.entry.now _ c.from_residual.result c.from_residual.ensures.1 c.in_err-change.ensures

pub returns-in_err-change-clause-journal : goal.returns-in_err-change-clause-journal
returns-in_err-change-clause-journal g c =
    nothing_entered c.args.self.now.view c.args.entry.now _ c.from_residual.result c.from_residual.ensures.1

pub returns-in_err-change-clause-spent : goal.returns-in_err-change-clause-spent
returns-in_err-change-clause-spent g c =
    (none_held c.args.self.now.farm c.args.entry.now c.args.self.now.view c.args.self.now.view _ _ c.from_residual.result c.from_residual.ensures.1).1

pub returns-in_err-change-clause-held : goal.returns-in_err-change-clause-held
returns-in_err-change-clause-held g c =
    (none_held c.args.self.now.farm c.args.entry.now c.args.self.now.view c.args.self.now.view 0 _ c.from_residual.result c.from_residual.ensures.1).0

pub returns-in_err-change-clause-keeper : goal.returns-in_err-change-clause-keeper
returns-in_err-change-clause-keeper g c =
    Continues-as g.K.Keeper.tells g.K.Keeper.faults c.args.self.now.keeper c.args.self.now.keeper false (is_store_refusal c.from_residual.result)
    (sym (never_store _ c.from_residual.result c.from_residual.ensures.1)) (Continues-same g.K.Keeper.tells g.K.Keeper.faults c.args.self.now.keeper)

pub returns-in_err-change-clause-told : goal.returns-in_err-change-clause-told
returns-in_err-change-clause-told g c =
    told_farm g.K.Keeper.commits c.args.self.now.farm c.args.entry.now c.args.self.now.keeper _ c.from_residual.result c.from_residual.ensures.1

pub returns-in_err-change-clause-faults : goal.returns-in_err-change-clause-faults
returns-in_err-change-clause-faults g c =
    ap (λ failed. incremented_if failed c.args.self.now.faults) (sym (never_store _ c.from_residual.result c.from_residual.ensures.1))

pub returns-clause-same : goal.returns-clause-same
returns-clause-same g c = λ unstored. c.record_answered.ensures.same (unstored c.in_ok-change.ensures.planned.accepted)

pub returns-clause-farm : goal.returns-clause-farm
returns-clause-farm g c =
    commits_made c.args.self.now.farm c.record_answered.new.self.farm c.args.entry.now c.in_ok-change.change c.in_ok-change.ensures c.record_answered.result
    c.record_answered.ensures.farm

pub returns-in_err-change-clause-alone : goal.returns-in_err-change-clause-alone
returns-in_err-change-clause-alone g c = λ split. alone_farm _ c.from_residual.result c.from_residual.ensures.1
