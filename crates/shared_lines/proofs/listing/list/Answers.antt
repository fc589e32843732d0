-- The list is that of the farm which the pass has then seen.
use Rattle.std.proofs.Common.{◌∙◌, [], ap, subst, sym}
use Rattle.farm_types.specs.Farm.{Farm}
use Rattle.farm_lines.specs.Lists.{page_listed}
use Rattle.farm_lines.specs.Transcript.{list_reply}
use Rattle.line_answers.specs.booking_recorder.specs.Passing.{Passing}
use Rattle.line_answers.specs.Lines.{IsLineOf, shown}
use Rattle.shared_rounds.specs.shared_bot.specs.Passes.{CaughtUp, IsFree}
use Rattle.shared_rounds.specs.shared_bot.proofs.Caught.{free_caught, works_none}
use Rattle.shared_lines.proofs.listing.list.Goals as goal

pub catch_up-requires-clause-opening : goal.catch_up-requires-clause-opening
catch_up-requires-clause-opening g c = c.notice.ensures.ready.starts

pub returns-clause-free : goal.returns-clause-free
returns-clause-free g c =
    let before = c.notice.new.recorder in
    let works = works_none before c.notice.ensures.ready.taken in
    free_caught g.N.Opened.opening c.notice.new.pass c.catch_up.new.pass [] 0
    (subst (λ (x : Passing). IsFree g.N.Opened.opening x.view) (sym c.notice.ensures.same) c.requires.free)
    (c.catch_up.ensures.caught before [] 0 c.notice.ensures.ready.behind works) c.catch_up.ensures.legal.1

pub returns-clause-caught : goal.returns-clause-caught
returns-clause-caught g c =
    let before = c.notice.new.recorder in
    let works = works_none before c.notice.ensures.ready.taken in
    subst (λ (x : Passing). CaughtUp x c.catch_up.new.pass [] 0) c.notice.ensures.same
    (c.catch_up.ensures.caught before [] 0 c.notice.ensures.ready.behind works)

pub returns-clause-line : goal.returns-clause-line
returns-clause-line g c =
    let starts = ap (λ (x : Passing). x.view.opening) c.notice.ensures.same ∙ c.requires.free.starts in
    subst (λ (f : Farm). IsLineOf (list_reply (page_listed f c.args.query)) (shown c.answer_list-line.result))
    (c.read.ensures ∙ c.catch_up.ensures.leads starts) c.answer_list-line.ensures
