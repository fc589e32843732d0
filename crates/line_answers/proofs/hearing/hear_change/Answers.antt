-- The change was recorded, or it wasn't.
use Rattle.std.proofs.Common.{ap, sym, ◌∙◌}
use Rattle.fault_counts.specs.Counts.{incremented_if}
use Rattle.farm_keeper.proofs.KeepingLaws.{Continues-as}
use Rattle.dispatcher.specs.booking_recorder.specs.Faults.{is_store_refusal}
use Rattle.line_answers.proofs.EntryLemmas.{never_books}
use Rattle.line_answers.proofs.HearLemmas.{alone_told, held_told, spent_told, store_told, told_at_fault, unentered, unheard, was_heard}
use Rattle.line_answers.proofs.hearing.hear_change.Goals as goal

pub record-requires-clause-unbooked : goal.record-requires-clause-unbooked
record-requires-clause-unbooked g c = never_books c.args.entry.now.act c.requires.unbooked

pub returns-in_err-record-clause-farm : goal.returns-in_err-record-clause-farm
returns-in_err-record-clause-farm g c =
    unheard c.args.recorder.now.farm c.record.new.self.farm c.args.entry.now c.args.change _ c.from_residual.result c.from_residual.ensures.1
    c.requires.of_entry.makes c.in_err-record.ensures.farm

pub returns-in_err-record-clause-journal : goal.returns-in_err-record-clause-journal
returns-in_err-record-clause-journal g c =
    unentered c.args.recorder.now.view c.record.new.self.view c.args.entry.now _ c.from_residual.result c.from_residual.ensures.1
    c.in_err-record.ensures.journal

pub returns-in_err-record-clause-spent : goal.returns-in_err-record-clause-spent
returns-in_err-record-clause-spent g c = spent_told _ _ c.from_residual.result c.from_residual.ensures.1 c.in_err-record.ensures.spent

pub returns-in_err-record-clause-held : goal.returns-in_err-record-clause-held
returns-in_err-record-clause-held g c =
    held_told c.args.recorder.now.farm c.args.entry.now c.args.recorder.now.view c.record.new.self.view _ c.from_residual.result
    c.from_residual.ensures.1 c.in_err-record.ensures.held

pub returns-in_err-record-clause-alone : goal.returns-in_err-record-clause-alone
returns-in_err-record-clause-alone g c = λ alone.
    alone_told _ c.from_residual.result c.from_residual.ensures.1 (c.in_err-record.ensures.alone alone)

pub returns-in_err-record-clause-keeper : goal.returns-in_err-record-clause-keeper
returns-in_err-record-clause-keeper g c =
    Continues-as g.K.Keeper.tells g.K.Keeper.faults c.args.recorder.now.keeper c.record.new.self.keeper _ (is_store_refusal c.from_residual.result)
    (store_told _ c.from_residual.result c.from_residual.ensures.1) c.in_err-record.ensures.keeper

pub returns-in_err-record-clause-told : goal.returns-in_err-record-clause-told
returns-in_err-record-clause-told g c =
    told_at_fault g.K.Keeper.commits c.args.recorder.now.farm c.args.entry.now c.args.recorder.now.keeper c.record.new.self.keeper
    c.requires.of_entry.legal.accepted _ c.from_residual.result c.from_residual.ensures.1 c.in_err-record.ensures.told

pub returns-in_err-record-clause-faults : goal.returns-in_err-record-clause-faults
returns-in_err-record-clause-faults g c =
    c.in_err-record.ensures.faults ∙ ap (λ failed. incremented_if failed c.args.recorder.now.faults)
    (store_told _ c.from_residual.result c.from_residual.ensures.1)

pub returns-clause-farm : goal.returns-clause-farm
returns-clause-farm g c =
    was_heard c.args.recorder.now.farm c.record.new.self.farm c.args.entry.now c.args.change c.heard-host.result c.requires.of_entry.makes
    c.heard-host.ensures c.in_ok-record.ensures.farm

pub returns-clause-journal : goal.returns-clause-journal
returns-clause-journal g c = c.in_ok-record.ensures.journal

pub returns-clause-spent : goal.returns-clause-spent
returns-clause-spent g c = sym c.in_ok-record.ensures.spent

pub returns-clause-told : goal.returns-clause-told
returns-clause-told g c = c.in_ok-record.ensures.told
