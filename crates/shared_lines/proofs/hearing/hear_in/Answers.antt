-- The entry was recorded at its place, or it wasn't.
use Rattle.std.proofs.Common.{◌∙◌, ap, subst, sym}
use Rattle.line_answers.specs.booking_recorder.specs.Passing.{Passing}
use Rattle.shared_rounds.specs.shared_bot.specs.Passes.{IsFree}
use Rattle.shared_rounds.specs.shared_bot.proofs.Caught.{free_caught}
use Rattle.shared_lines.specs.Hearing.{HearsBeside}
use Rattle.shared_lines.proofs.HeardAnswers.{heard, opening_heard, worked_heard}
use Rattle.shared_lines.proofs.ReportAnswers.{grows_heard}
use Rattle.shared_lines.proofs.hearing.hear_in.Goals as goal

pub catch_up-requires-clause-opening : goal.catch_up-requires-clause-opening
catch_up-requires-clause-opening g c =
    opening_heard c.notice.new.recorder.view c.hear-came.new.recorder.view c.args.entry.now c.hear-came.result c.hear-came.ensures.journal
    ∙ c.notice.ensures.ready.starts

pub returns-clause-free : goal.returns-clause-free
returns-clause-free g c =
    let p = c.notice.new.pass in
    let before = c.notice.new.recorder in
    let now = c.hear-came.new.recorder in
    let worked = worked_heard before now c.args.entry.now c.hear-came.result c.notice.ensures.ready.taken c.hear-came.ensures.journal in
    let caught = c.catch_up.ensures.caught before worked.0 now.faults c.notice.ensures.ready.behind worked.1 in
    free_caught g.N.Opened.opening p c.catch_up.new.pass worked.0 now.faults
    (subst (λ (x : Passing). IsFree g.N.Opened.opening x.view) (sym c.notice.ensures.same) c.requires.free) caught c.catch_up.ensures.legal.1

pub returns-clause-hears : goal.returns-clause-hears
returns-clause-hears g c =
    let starts = ap (λ (x : Passing). x.view.opening) c.notice.ensures.same ∙ c.requires.free.starts in
    subst (λ (x : Passing). HearsBeside x c.args.entry.now c.hear-came.result c.catch_up.new.pass) c.notice.ensures.same
    (heard g.N.Opened.opening c.notice.new.pass c.catch_up.new.pass c.notice.new.recorder c.hear-came.new.recorder c.notice.ensures.ready
    (λ mine n works. c.catch_up.ensures.caught c.notice.new.recorder mine n c.notice.ensures.ready.behind works) c.catch_up.ensures.journal starts
    (c.catch_up.ensures.leads starts) c.catch_up.ensures.trail c.args.entry.now c.hear-came.result c.hear-came.ensures.farm c.hear-came.ensures.journal
    c.hear-came.ensures.spent c.hear-came.ensures.held c.hear-came.ensures.faults)

pub returns-clause-grows : goal.returns-clause-grows
returns-clause-grows g c =
    grows_heard c.args.pass.now c.catch_up.new.pass c.args.entry.now c.hear-came.result (returns-clause-hears g c)
