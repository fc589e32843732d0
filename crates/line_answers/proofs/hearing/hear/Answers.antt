-- A change was prepared and recorded, or no change was prepared.
use Rattle.std.proofs.Common.{ap, false, sym}
use Rattle.fault_counts.specs.Counts.{incremented_if}
use Rattle.farm_keeper.proofs.KeepingLaws.{Continues-as, Continues-same}
use Rattle.dispatcher.specs.booking_recorder.specs.Faults.{is_store_refusal}
use Rattle.dispatcher.specs.booking_recorder.proofs.Rests.{stays_same}
use Rattle.line_answers.proofs.AnswerLemmas.{entry_made, no_booking}
use Rattle.line_answers.proofs.HearLemmas.{never_held, never_store, never_told, unentered, unprepared}
use Rattle.line_answers.proofs.hearing.hear.Goals as goal

pub prepare-requires-clause-condition : goal.prepare-requires-clause-condition
prepare-requires-clause-condition g c = no_booking c.args.recorder.now.farm c.args.entry.now.act c.requires.unbooked

pub hear_change-requires-clause-of_entry : goal.hear_change-requires-clause-of_entry
hear_change-requires-clause-of_entry g c =
    entry_made c.args.recorder.now.farm c.args.entry.now c.in_ok-change.change
    (no_booking c.args.recorder.now.farm c.args.entry.now.act c.requires.unbooked) c.requires.formed c.in_ok-change.ensures

pub returns-in_err-change-clause-farm : goal.returns-in_err-change-clause-farm
returns-in_err-change-clause-farm g c =
    unprepared c.args.recorder.now.farm c.args.entry.now _ c.from_residual.result c.from_residual.ensures.1 c.in_err-change.ensures

pub returns-in_err-change-clause-journal : goal.returns-in_err-change-clause-journal
returns-in_err-change-clause-journal g c =
    unentered c.args.recorder.now.view c.args.recorder.now.view c.args.entry.now _ c.from_residual.result c.from_residual.ensures.1
    (stays_same c.args.recorder.now.view)

pub returns-in_err-change-clause-spent : goal.returns-in_err-change-clause-spent
returns-in_err-change-clause-spent g c =
    (never_held c.args.recorder.now.farm c.args.entry.now c.args.recorder.now.view c.args.recorder.now.view _ _ c.from_residual.result
    c.from_residual.ensures.1).1

pub returns-in_err-change-clause-held : goal.returns-in_err-change-clause-held
returns-in_err-change-clause-held g c =
    (never_held c.args.recorder.now.farm c.args.entry.now c.args.recorder.now.view c.args.recorder.now.view 0 _ c.from_residual.result
    c.from_residual.ensures.1).0

pub returns-in_err-change-clause-alone : goal.returns-in_err-change-clause-alone
returns-in_err-change-clause-alone g c = λ alone.
    (never_held c.args.recorder.now.farm c.args.entry.now c.args.recorder.now.view c.args.recorder.now.view 0 _ c.from_residual.result
    c.from_residual.ensures.1).2

pub returns-in_err-change-clause-keeper : goal.returns-in_err-change-clause-keeper
returns-in_err-change-clause-keeper g c =
    Continues-as g.K.Keeper.tells g.K.Keeper.faults c.args.recorder.now.keeper c.args.recorder.now.keeper false (is_store_refusal c.from_residual.result)
    (sym (never_store _ c.from_residual.result c.from_residual.ensures.1))
    (Continues-same g.K.Keeper.tells g.K.Keeper.faults c.args.recorder.now.keeper)

pub returns-in_err-change-clause-told : goal.returns-in_err-change-clause-told
returns-in_err-change-clause-told g c =
    never_told g.K.Keeper.commits c.args.recorder.now.farm c.args.entry.now c.args.recorder.now.keeper c.args.recorder.now.keeper _
    c.from_residual.result c.from_residual.ensures.1

pub returns-in_err-change-clause-faults : goal.returns-in_err-change-clause-faults
returns-in_err-change-clause-faults g c =
    ap (λ failed. incremented_if failed c.args.recorder.now.faults) (sym (never_store _ c.from_residual.result c.from_residual.ensures.1))

pub returns-clause-same : goal.returns-clause-same
returns-clause-same g c = λ unstored. c.hear_change.ensures.same (unstored c.in_ok-change.ensures.planned.accepted)
