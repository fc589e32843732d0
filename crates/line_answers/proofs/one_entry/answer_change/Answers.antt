-- The line was written and the change recorded, or memory ran out.
use Rattle.std.proofs.Common.{ap, sym, inr, ◌∙◌, ◌∷◌, [], ◌++◌}
use Rattle.fault_counts.specs.Counts.{incremented_if}
use Rattle.dispatcher.specs.booking_recorder.proofs.Rests.{stays_same}
use Rattle.farm_lines.specs.Reply.{ok_reply, reply_text}
use Rattle.farm_lines.specs.Transcript.{entry_answer}
use Rattle.farm_types.specs.Step.{refusal_of}
use Rattle.line_answers.specs.declared.reply_line.ReplyLine.{ReplyLine}
use Rattle.line_answers.specs.Entering.{AnswersOn}
use Rattle.line_answers.specs.LineAnswers.{MayStoreEntry}
use Rattle.line_answers.specs.Lines.{is_store_line, shown}
use Rattle.line_answers.proofs.AnswerLemmas.{entry_made, no_booking, recorded_answer, unreplied}
use Rattle.line_answers.proofs.ToldLemmas.{AnswersOn-same}
use Rattle.line_answers.proofs.one_entry.answer_change.Goals as goal

pub record-requires-clause-of_entry : goal.record-requires-clause-of_entry
record-requires-clause-of_entry g c =
    entry_made c.args.recorder.now.farm c.args.entry.now c.args.change (no_booking c.args.recorder.now.farm c.args.entry.now.act c.requires.unbooked)
    c.requires.formed c.requires.makes

pub returns-in-Ok-clause-answer : goal.returns-in-Ok-clause-answer
returns-in-Ok-clause-answer g c =
    recorded_answer c.args.recorder.now.farm c.record.new.recorder.farm c.args.entry.now c.args.change c.in-Ok.line c.record.result
    (AnswersOn g.K.Keeper.commits g.K.Keeper.tells g.K.Keeper.faults c.args.recorder.now c.record.new.recorder) c.requires.makes
    (c.in-Ok.ensures ∙ ap (λ told. reply_text (ok_reply c.args.entry.now.act told) ++ 10 ∷ []) (c.answer.ensures ∙ c.requires.makes.planned.answer))
    c.record.ensures.recorded c.record.ensures.went

pub returns-in-Err-clause-answer : goal.returns-in-Err-clause-answer
returns-in-Err-clause-answer g c =
    unreplied c.args.recorder.now.farm (shown c.without_memory.result)
    (AnswersOn g.K.Keeper.commits g.K.Keeper.tells g.K.Keeper.faults c.args.recorder.now c.args.recorder.now c.without_memory.result)
    (AnswersOn-same g.K.Keeper.commits g.K.Keeper.tells g.K.Keeper.faults c.args.recorder.now c.without_memory.result
    (ap is_store_line c.without_memory.ensures))
    (λ mark. entry_answer c.args.recorder.now.farm c.args.entry.now mark (refusal_of c.args.recorder.now.farm c.args.entry.now))
    (MayStoreEntry c.args.recorder.now.farm c.args.entry.now) tt (ap shown c.without_memory.ensures)

pub returns-in-Err-clause-journal : goal.returns-in-Err-clause-journal
returns-in-Err-clause-journal g c = inr (stays_same c.args.recorder.now.view)

pub returns-in-Err-clause-faults : goal.returns-in-Err-clause-faults
returns-in-Err-clause-faults g c =
    sym (ap (λ (line : ReplyLine). incremented_if (is_store_line line) c.args.recorder.now.faults) c.without_memory.ensures)
