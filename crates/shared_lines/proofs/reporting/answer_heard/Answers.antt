-- The round after a report that was recorded, or why it wasn't.
use Rattle.std.proofs.Common.{◌∙◌, ap, subst}
use Rattle.std.specs.Prelude.{ℕ, IfOk, Ok, Option, Result}
use Rattle.farm_lines.specs.Asked.{heard_entry}
use Rattle.farm_lines.specs.declared.reply.Reply.{Reply}
use Rattle.line_answers.specs.booking_recorder.specs.declared.refusal.CommitRefusal.{CommitRefusal}
use Rattle.line_answers.specs.Lines.{IsLineOfOther, shown}
use Rattle.line_answers.specs.Reports.{TellsHost}
use Rattle.shared_lines.specs.Hearing.{HearsBeside}
use Rattle.shared_lines.proofs.ReportAnswers.{reported, unrecorded}
use Rattle.shared_lines.proofs.reporting.answer_heard.Goals as goal

pub heard_by-host-requires : goal.heard_by-host-requires
heard_by-host-requires g c = subst (λ (r : Result (Option ℕ) CommitRefusal). IfOk r (TellsHost c.args.act.now)) c.in-Ok.is c.requires.host

pub returns-in-Ok-clause-answer : goal.returns-in-Ok-clause-answer
returns-in-Ok-clause-answer g c = λ before report is hears.
    let e = heard_entry report c.args.moment in
    let recorded = c.in-Ok.is ∙ ap Ok c.heard_by-host.ensures.host in
    reported before c.args.pass.now c.reply_behind.new.pass report c.args.moment c.heard_by-host.result.0 c.heard_by-host.result.1.now c.args.running.now
    c.args.act.now (shown c.reply_behind.result) is c.heard_by-host.ensures.heard
    (subst (λ (r : Result (Option ℕ) CommitRefusal). HearsBeside before e r c.args.pass.now) recorded hears) c.reply_behind.ensures.replied

pub returns-in-Err-clause-answer : goal.returns-in-Err-clause-answer
returns-in-Err-clause-answer g c = λ before report is hears.
    let e = heard_entry report c.args.moment in
    unrecorded before c.args.pass.now report c.args.moment (shown c.other_line.result) c.in-Err.why
    (subst (λ (r : Result (Option ℕ) CommitRefusal). HearsBeside before e r c.args.pass.now) c.in-Err.is hears)
    (subst (λ (r : Reply). IsLineOfOther r (shown c.other_line.result)) c.unrecorded_reply.ensures c.other_line.ensures)
