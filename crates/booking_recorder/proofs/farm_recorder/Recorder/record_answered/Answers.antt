use Rattle.std.proofs.Common.{ap, sym, ◌∙◌}
use Rattle.fault_counts.specs.Counts.{incremented_if}
use Rattle.farm_keeper.proofs.KeepingLaws.{Continues-as}
use Rattle.farm_core.specs.Change.{after_change}
use Rattle.booking_recorder.specs.Faults.{is_store_refusal}
use Rattle.booking_recorder.proofs.Stopped.{alone_answer, answered, held_answer, spent_answer, stays_answer, store_answer, told_answer}
use Rattle.booking_recorder.proofs.farm_recorder.Recorder.record_answered.Goals as goal

pub returns-in_err-record-clause-farm : goal.returns-in_err-record-clause-farm
returns-in_err-record-clause-farm g c =
    answered c.args.self.now.farm (after_change c.args.self.now.farm c.args.change) c.record.new.self.farm c.args.change.answer _ c.from_residual.result
    c.from_residual.ensures.1 c.in_err-record.ensures.farm

pub returns-in_err-record-clause-journal : goal.returns-in_err-record-clause-journal
returns-in_err-record-clause-journal g c =
    stays_answer c.args.self.now.view c.record.new.self.view c.args.entry.now _ c.from_residual.result c.from_residual.ensures.1 c.in_err-record.ensures.journal

pub returns-in_err-record-clause-spent : goal.returns-in_err-record-clause-spent
returns-in_err-record-clause-spent g c = spent_answer _ _ c.from_residual.result c.from_residual.ensures.1 c.in_err-record.ensures.spent

pub returns-in_err-record-clause-held : goal.returns-in_err-record-clause-held
returns-in_err-record-clause-held g c =
    held_answer c.args.self.now.farm c.args.entry.now c.args.self.now.view c.record.new.self.view _ c.from_residual.result c.from_residual.ensures.1
    c.in_err-record.ensures.held

pub returns-in_err-record-clause-keeper : goal.returns-in_err-record-clause-keeper
returns-in_err-record-clause-keeper g c =
    Continues-as g.K.Keeper.tells g.K.Keeper.faults c.args.self.now.keeper c.record.new.self.keeper _ (is_store_refusal c.from_residual.result)
    (store_answer _ c.from_residual.result c.from_residual.ensures.1) c.in_err-record.ensures.keeper

pub returns-in_err-record-clause-told : goal.returns-in_err-record-clause-told
returns-in_err-record-clause-told g c =
    told_answer g.K.Keeper.commits c.args.self.now.farm c.args.entry.now c.args.self.now.keeper c.record.new.self.keeper c.requires.of_entry.legal.accepted _
    c.from_residual.result c.from_residual.ensures.1 c.in_err-record.ensures.told

pub returns-in_err-record-clause-faults : goal.returns-in_err-record-clause-faults
returns-in_err-record-clause-faults g c =
    c.in_err-record.ensures.faults ∙ ap (λ failed. incremented_if failed c.args.self.now.faults)
    (store_answer _ c.from_residual.result c.from_residual.ensures.1)

pub returns-clause-farm : goal.returns-clause-farm
returns-clause-farm g c = (c.answer-answer.ensures, c.in_ok-record.ensures.farm)

pub returns-clause-journal : goal.returns-clause-journal
returns-clause-journal g c = c.in_ok-record.ensures.journal

pub returns-clause-spent : goal.returns-clause-spent
returns-clause-spent g c = sym c.in_ok-record.ensures.spent

pub returns-clause-told : goal.returns-clause-told
returns-clause-told g c = c.in_ok-record.ensures.told

pub returns-in_err-record-clause-alone : goal.returns-in_err-record-clause-alone
returns-in_err-record-clause-alone g c = λ split. alone_answer _ c.from_residual.result c.from_residual.ensures.1 (c.in_err-record.ensures.alone split)
