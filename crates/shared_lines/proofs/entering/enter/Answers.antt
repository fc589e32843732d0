-- The entry was answered at its place, or hindered.
use Rattle.std.proofs.Common.{◌∙◌, ap, subst, sym}
use Rattle.std.specs.Prelude.{IfErr, IfOk}
use mathlib.Core.List.{IsPrefix}
use Rattle.line_answers.specs.booking_recorder.specs.Passing.{Passing}
use Rattle.line_answers.specs.Lines.{shown}
use Rattle.shared_rounds.specs.shared_bot.specs.Passes.{IsFree}
use Rattle.shared_rounds.specs.shared_bot.proofs.Caught.{free_caught}
use Rattle.shared_lines.specs.Answered.{IsEnteredAt}
use Rattle.shared_lines.specs.Hindered.{IsHinderedBy}
use Rattle.shared_lines.proofs.EntryAnswers.{entered_if, hindered_if, opening_after, worked_entry}
use Rattle.shared_lines.proofs.entering.enter.Goals as goal

pub catch_up-requires-clause-opening : goal.catch_up-requires-clause-opening
catch_up-requires-clause-opening g c =
    opening_after c.notice.new.recorder.view c.answer_entry-came.new.recorder.view c.args.entry.now c.answer_entry-came.result
    c.answer_entry-came.ensures.journal ∙ c.notice.ensures.ready.starts

pub returns-clause-free : goal.returns-clause-free
returns-clause-free g c =
    let p = c.notice.new.pass in
    let before = c.notice.new.recorder in
    let now = c.answer_entry-came.new.recorder in
    let worked = worked_entry before now c.args.entry.now c.answer_entry-came.result c.notice.ensures.ready.taken c.answer_entry-came.ensures.journal in
    let caught = c.catch_up.ensures.caught before worked.0 now.faults c.notice.ensures.ready.behind worked.1 in
    free_caught g.N.Opened.opening p c.catch_up.new.pass worked.0 now.faults
    (subst (λ (x : Passing). IsFree g.N.Opened.opening x.view) (sym c.notice.ensures.same) c.requires.free) caught c.catch_up.ensures.legal.1

pub returns-clause-grows : goal.returns-clause-grows
returns-clause-grows g c =
    let before = c.notice.new.recorder in
    let now = c.answer_entry-came.new.recorder in
    let worked = worked_entry before now c.args.entry.now c.answer_entry-came.result c.notice.ensures.ready.taken c.answer_entry-came.ensures.journal in
    let caught = c.catch_up.ensures.caught before worked.0 now.faults c.notice.ensures.ready.behind worked.1 in
    subst (λ (x : Passing). IsPrefix x.view.journal c.catch_up.new.pass.view.journal) c.notice.ensures.same caught.learns.journal

pub returns-clause-answer : goal.returns-clause-answer
returns-clause-answer g c =
    let starts = ap (λ (x : Passing). x.view.opening) c.notice.ensures.same ∙ c.requires.free.starts in
    subst (λ (x : Passing). IfOk c.answer_entry-came.result (λ line. IsEnteredAt x c.args.entry.now (shown line) c.catch_up.new.pass)) c.notice.ensures.same
    (entered_if g.N.Opened.opening c.notice.new.pass c.catch_up.new.pass c.notice.new.recorder c.answer_entry-came.new.recorder c.notice.ensures.ready
    (λ mine n works. c.catch_up.ensures.caught c.notice.new.recorder mine n c.notice.ensures.ready.behind works) c.catch_up.ensures.journal starts
    (c.catch_up.ensures.leads starts) c.catch_up.ensures.trail c.args.entry.now g.K.Keeper.commits g.K.Keeper.tells g.K.Keeper.faults
    c.answer_entry-came.result c.answer_entry-came.ensures.answer c.answer_entry-came.ensures.journal c.answer_entry-came.ensures.faults)

pub returns-clause-hindered : goal.returns-clause-hindered
returns-clause-hindered g c =
    let starts = ap (λ (x : Passing). x.view.opening) c.notice.ensures.same ∙ c.requires.free.starts in
    subst (λ (x : Passing). IfErr c.answer_entry-came.result (λ why. IsHinderedBy x c.args.entry.now why c.catch_up.new.pass)) c.notice.ensures.same
    (hindered_if g.N.Opened.opening c.notice.new.pass c.catch_up.new.pass c.notice.new.recorder c.answer_entry-came.new.recorder c.notice.ensures.ready
    (λ mine n works. c.catch_up.ensures.caught c.notice.new.recorder mine n c.notice.ensures.ready.behind works) c.catch_up.ensures.journal starts
    (c.catch_up.ensures.leads starts) c.catch_up.ensures.trail c.args.entry.now c.answer_entry-came.result c.answer_entry-came.ensures.hindered
    c.answer_entry-came.ensures.journal c.answer_entry-came.ensures.faults)
