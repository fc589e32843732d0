-- The round was walked, and its reply made, or memory ran out for it.
use Rattle.std.proofs.Common.{refl, subst}
use Rattle.farm_types.specs.Farm.{Farm}
use Rattle.farm_lines.specs.Reply.{report_reply}
use Rattle.dispatcher.specs.booking_recorder.specs.Going.{GoesOn}
use Rattle.line_answers.specs.Launches.{told}
use Rattle.line_answers.specs.Told.{Reports}
use Rattle.line_answers.proofs.ReportLemmas.{round_replied, round_unreplied}
use Rattle.line_answers.proofs.answer_report.take_round.Goals as goal

pub returns-in-Ok-clause-taken : goal.returns-in-Ok-clause-taken
returns-in-Ok-clause-taken g c =
    round_replied c.args.recorder.now.farm c.args.host (told c.args.heard.now c.args.running.now) c.args.moment c.book_alone-walked.new.recorder.farm _
    (GoesOn g.K.Keeper.commits g.K.Keeper.tells g.K.Keeper.faults c.args.recorder.now c.book_alone-walked.new.recorder) c.book_alone-walked.result
    c.book_alone-walked.ensures.round c.book_alone-walked.ensures.went refl
    (subst (λ (now : Farm). Reports c.in-Ok.line (report_reply now c.args.host (told c.args.heard.now c.args.running.now) c.book_alone-walked.result.cut))
    c.read.ensures c.in-Ok.ensures)

pub returns-in-Err-clause-taken : goal.returns-in-Err-clause-taken
returns-in-Err-clause-taken g c =
    round_unreplied c.args.recorder.now.farm c.args.host (told c.args.heard.now c.args.running.now) c.args.moment c.book_alone-walked.new.recorder.farm _
    (GoesOn g.K.Keeper.commits g.K.Keeper.tells g.K.Keeper.faults c.args.recorder.now c.book_alone-walked.new.recorder) c.book_alone-walked.result
    c.book_alone-walked.ensures.round c.book_alone-walked.ensures.went refl refl
