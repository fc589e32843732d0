-- The entry is in the farm, in the keeper and on the words, or in none of them.
use Rattle.std.proofs.Common.{IfOk, Result, ap, inl, sym, subst, ◌∙◌, ◌∷◌, []}
use Rattle.std.specs.Prelude.{IfErr}
use Rattle.fault_counts.specs.Counts.{incremented_if}
use Rattle.dispatcher.specs.farm_core.specs.Change.{after_change}
use Rattle.line_answers.specs.declared.hindered.Hindered.{Hindered}
use Rattle.line_answers.specs.declared.reply_line.ReplyLine.{ReplyLine}
use Rattle.line_answers.specs.declared.reply_line.ReplyLine.TheVariants as reply_line
use Rattle.line_answers.specs.Entering.{AnswersOn, EntersAnswer, IsHindered, is_store_answer}
use Rattle.line_answers.specs.LineAnswers.{IsRecorded}
use Rattle.line_answers.specs.Lines.{is_store_line, recorded_by}
use Rattle.line_answers.proofs.EntryLemmas.{fails_counted, fails_entered, fails_hindered, fails_recorded, fails_went, never_books}
use Rattle.line_answers.proofs.ToldLemmas.{AnswersOn-asked, GoesOn-taken}
use Rattle.line_answers.proofs.one_entry.record.Goals as goal

pub record-requires-clause-unbooked : goal.record-requires-clause-unbooked
record-requires-clause-unbooked g c = never_books c.args.entry.now.act c.requires.unbooked

pub returns-in-Ok-clause-went : goal.returns-in-Ok-clause-went
returns-in-Ok-clause-went g c =
    let e = c.args.entry.now in
    AnswersOn-asked g.K.Keeper.commits g.K.Keeper.tells g.K.Keeper.faults c.args.recorder.now c.record.new.self (reply_line.Written c.args.line) (e ∷ [])
    (e ∷ []) c.in-Ok.ensures.spent
    (GoesOn-taken g.K.Keeper.commits g.K.Keeper.tells g.K.Keeper.faults c.args.recorder.now c.record.new.self e c.in-Ok.ensures.keeper
    c.in-Ok.ensures.told c.in-Ok.ensures.journal)

pub returns-in-Ok-clause-journal : goal.returns-in-Ok-clause-journal
returns-in-Ok-clause-journal g c = inl c.in-Ok.ensures.journal

pub returns-in-Err-clause-recorded : goal.returns-in-Err-clause-recorded
returns-in-Err-clause-recorded g c =
    let old = c.args.recorder.now.farm in
    let changed = after_change old c.args.change in
    subst (λ (came : Result ReplyLine Hindered). IfOk came (λ told. IsRecorded old changed c.args.line c.record.new.self.farm told)) (sym c.unrecorded.ensures)
    (fails_recorded old changed c.record.new.self.farm c.args.line c.in-Err.fault c.in-Err.ensures.farm)

pub returns-in-Err-clause-went : goal.returns-in-Err-clause-went
returns-in-Err-clause-went g c =
    let e = c.args.entry.now in
    subst
    (λ (came : Result ReplyLine Hindered). IfOk came (λ told. AnswersOn g.K.Keeper.commits g.K.Keeper.tells g.K.Keeper.faults c.args.recorder.now
    c.record.new.self told (e ∷ []) (recorded_by e told) (is_store_line told))) (sym c.unrecorded.ensures)
    (fails_went g.K.Keeper.commits g.K.Keeper.tells g.K.Keeper.faults c.args.recorder.now c.record.new.self e c.in-Err.fault c.in-Err.ensures.keeper
    c.in-Err.ensures.told c.in-Err.ensures.journal c.in-Err.ensures.spent)

pub returns-in-Err-clause-hindered : goal.returns-in-Err-clause-hindered
returns-in-Err-clause-hindered g c =
    let e = c.args.entry.now in
    subst (λ (came : Result ReplyLine Hindered). IfErr came (λ why. IsHindered c.args.recorder.now e why c.record.new.self)) (sym c.unrecorded.ensures)
    (fails_hindered g.K.Keeper.commits g.K.Keeper.tells g.K.Keeper.faults c.args.recorder.now c.record.new.self e
    (after_change c.args.recorder.now.farm c.args.change) c.in-Err.fault c.requires.of_entry.legal.accepted c.in-Err.ensures.farm c.in-Err.ensures.told
    c.in-Err.ensures.held c.in-Err.ensures.alone c.in-Err.ensures.spent)

pub returns-in-Err-clause-journal : goal.returns-in-Err-clause-journal
returns-in-Err-clause-journal g c =
    let e = c.args.entry.now in
    subst (λ (came : Result ReplyLine Hindered). EntersAnswer c.args.recorder.now.view e came c.record.new.self.view) (sym c.unrecorded.ensures)
    (fails_entered c.args.recorder.now.view c.record.new.self.view e c.in-Err.fault c.in-Err.ensures.journal)

pub returns-in-Err-clause-faults : goal.returns-in-Err-clause-faults
returns-in-Err-clause-faults g c =
    c.in-Err.ensures.faults
    ∙ ap (λ failed. incremented_if failed c.args.recorder.now.faults) (fails_counted c.in-Err.fault ∙ sym (ap is_store_answer c.unrecorded.ensures))
