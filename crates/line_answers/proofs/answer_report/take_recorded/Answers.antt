-- The round after a report that was recorded, or why it wasn't.
use Rattle.std.proofs.Common.{◌≡◌, ◌∙◌, ℕ, Option, Some, Result, Ok, Err, IfOk, refl, sym, subst, ap}
use Rattle.farm_types.specs.declared.entry.HeardAct.{HeardAct}
use Rattle.farm_types.specs.Dispatch.{round_for}
use Rattle.farm_lines.specs.Asked.{heard_entry}
use Rattle.farm_lines.specs.declared.report.Report.{Report}
use Rattle.farm_lines.specs.declared.reply.Reply.{Reply}
use Rattle.dispatcher.specs.booking_recorder.specs.declared.refusal.CommitRefusal.{CommitRefusal}
use Rattle.dispatcher.specs.booking_recorder.specs.Going.{GoesOn}
use Rattle.line_answers.specs.Entering.{WasHeard, is_hindered}
use Rattle.line_answers.specs.Launches.{told}
use Rattle.line_answers.specs.declared.told.Told.TheVariants as variants
use Rattle.line_answers.specs.LineAnswers.{Hears, TakesRound}
use Rattle.line_answers.specs.Reports.{TellsHost}
use Rattle.line_answers.proofs.ReportLemmas.{heard_same, taken_report, unrecorded_report, unstored_round}
use Rattle.line_answers.proofs.ToldLemmas.{GoesOn-behind, unheard_goes}
use Rattle.line_answers.proofs.answer_report.take_recorded.Goals as goal

pub heard_by-host-requires : goal.heard_by-host-requires
heard_by-host-requires g c = subst (λ (r : Result (Option ℕ) CommitRefusal). IfOk r (TellsHost c.args.act.now)) c.in-Ok.is c.requires.host

pub returns-in-Ok-clause-taken : goal.returns-in-Ok-clause-taken
returns-in-Ok-clause-taken g c = λ before report is came.
    let now = c.args.recorder.now in
    let new = c.take_round.new.recorder in
    let e = heard_entry report c.args.moment in
    let host = c.heard_by-host.result.0 in
    let from = c.heard_by-host.result.1.now in
    let recorded : c.args.recorded ≡ Ok (Some host) = c.in-Ok.is ∙ ap Ok c.heard_by-host.ensures.host in
    let was : WasHeard g.K.Keeper.commits g.K.Keeper.tells g.K.Keeper.faults before e (Ok (Some host)) now =
    subst (λ (r : Result (Option ℕ) CommitRefusal). WasHeard g.K.Keeper.commits g.K.Keeper.tells g.K.Keeper.faults before e r now) recorded came in
    let same : told from c.args.running.now ≡ report =
    ap (λ (h : HeardAct). told h c.args.running.now) (heard_same from report.heard (sym c.heard_by-host.ensures.heard ∙ is.0)) ∙ ap (told report.heard) is.1 in
    taken_report before.farm now.farm new.farm report c.args.moment host c.take_round.result
    (GoesOn g.K.Keeper.commits g.K.Keeper.tells g.K.Keeper.faults before new) (GoesOn g.K.Keeper.commits g.K.Keeper.tells g.K.Keeper.faults now new)
    was.farm
    (GoesOn-behind g.K.Keeper.commits g.K.Keeper.tells g.K.Keeper.faults before now new e was.farm.2 was.keeper was.told was.journal
    (round_for now.farm host c.args.moment))
    (subst
    (λ (r : Report). TakesRound now.farm host r c.args.moment new.farm c.take_round.result
    (GoesOn g.K.Keeper.commits g.K.Keeper.tells g.K.Keeper.faults now new)) same c.take_round.ensures.taken)

pub returns-in-Ok-clause-same : goal.returns-in-Ok-clause-same
returns-in-Ok-clause-same g c = λ f report is heard none.
    let now = c.args.recorder.now in
    let host = c.heard_by-host.result.0 in
    let recorded : c.args.recorded ≡ Ok (Some host) = c.in-Ok.is ∙ ap Ok c.heard_by-host.ensures.host in
    c.take_round.ensures.same (unstored_round f now.farm report c.args.moment host
    (subst (λ (r : Result (Option ℕ) CommitRefusal). Hears f (heard_entry report c.args.moment) r now.farm) recorded heard) none)

pub returns-in-Err-clause-taken : goal.returns-in-Err-clause-taken
returns-in-Err-clause-taken g c = λ before report is came.
    let now = c.args.recorder.now in
    let e = heard_entry report c.args.moment in
    let was : WasHeard g.K.Keeper.commits g.K.Keeper.tells g.K.Keeper.faults before e (Err c.in-Err.why) now =
    subst (λ (r : Result (Option ℕ) CommitRefusal). WasHeard g.K.Keeper.commits g.K.Keeper.tells g.K.Keeper.faults before e r now) c.in-Err.is came in
    unrecorded_report before.farm now.farm report c.args.moment c.in-Err.why _
    (GoesOn g.K.Keeper.commits g.K.Keeper.tells g.K.Keeper.faults before now) (sym (ap is_hindered c.in-Err.is) ∙ c.requires.unhindered) was.farm
    (ap (λ (r : Reply). variants.Other r) c.unrecorded_reply.ensures) refl
    (unheard_goes g.K.Keeper.commits g.K.Keeper.tells g.K.Keeper.faults before now report c.args.moment c.in-Err.why was)
