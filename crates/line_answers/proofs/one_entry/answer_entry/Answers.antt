-- The change was prepared and its entry answered, or no change was prepared.
use Rattle.std.proofs.Common.{ap, sym, inr}
use Rattle.fault_counts.specs.Counts.{incremented_if}
use Rattle.dispatcher.specs.booking_recorder.proofs.Rests.{stays_same}
use Rattle.line_answers.specs.Entering.{AnswersOn}
use Rattle.line_answers.specs.Lines.{shown}
use Rattle.line_answers.proofs.AnswerLemmas.{no_booking, unprepared_entry}
use Rattle.line_answers.proofs.ToldLemmas.{AnswersOn-same}
use Rattle.line_answers.proofs.one_entry.answer_entry.Goals as goal

pub prepare-requires-clause-condition : goal.prepare-requires-clause-condition
prepare-requires-clause-condition g c = no_booking c.args.recorder.now.farm c.args.entry.now.act c.requires.unbooked

pub returns-in-Err-clause-answer : goal.returns-in-Err-clause-answer
returns-in-Err-clause-answer g c =
    unprepared_entry c.args.recorder.now.farm c.args.entry.now c.in-Err.fault (shown c.fault_line.result)
    (AnswersOn g.K.Keeper.commits g.K.Keeper.tells g.K.Keeper.faults c.args.recorder.now c.args.recorder.now c.fault_line.result)
    (AnswersOn-same g.K.Keeper.commits g.K.Keeper.tells g.K.Keeper.faults c.args.recorder.now c.fault_line.result c.fault_line.ensures.never_store)
    c.in-Err.ensures c.fault_line.ensures.line

pub returns-in-Err-clause-journal : goal.returns-in-Err-clause-journal
returns-in-Err-clause-journal g c = inr (stays_same c.args.recorder.now.view)

pub returns-in-Err-clause-faults : goal.returns-in-Err-clause-faults
returns-in-Err-clause-faults g c = sym (ap (λ failed. incremented_if failed c.args.recorder.now.faults) c.fault_line.ensures.never_store)

pub returns-in-Ok-clause-same : goal.returns-in-Ok-clause-same
returns-in-Ok-clause-same g c = λ unstored. c.answer_change.ensures.same (unstored c.in-Ok.ensures.planned.accepted)
