use Rattle.std.proofs.Common.{◌≡◌, ◌∙◌, ap, subst, sym}
use Rattle.std.specs.Prelude.{MatchResult}
use Rattle.shared_bot.specs.booking_recorder.specs.Passing.{Passing}
use Rattle.shared_bot.specs.Passes.{IsFree}
use Rattle.booking_table.specs.Holds.{HasClaim}
use Rattle.shared_rounds.specs.Rounds.{Grows}
use Rattle.shared_rounds.specs.Tries.{IsBooked, IsUnbooked}
use Rattle.shared_rounds.proofs.Booked.{confirmed_claim, confirmed_free, confirmed_grows, confirmed_so, handed_back, opening_stays}
use Rattle.shared_rounds.proofs.confirming.confirm.Goals as goal

pub confirm-booked-requires-clause-formed : goal.confirm-booked-requires-clause-formed
confirm-booked-requires-clause-formed g c = (c.requires.has.0.0, c.requires.has.0.2)

pub catch_up-requires-clause-opening : goal.catch_up-requires-clause-opening
catch_up-requires-clause-opening g c =
    opening_stays c.notice.new.recorder.farm c.confirm-booked.new.self.farm c.notice.new.recorder.view c.confirm-booked.new.self.view c.args.claim c.args.moment
    c.confirm-booked.result c.confirm-booked.ensures.confirms
    ∙ c.notice.ensures.ready.starts

pub returns-clause-free : goal.returns-clause-free
returns-clause-free g c =
    let before = c.notice.new.recorder in
    confirmed_free c.notice.new.pass c.catch_up.new.pass before c.confirm-booked.new.self c.args.claim c.args.moment c.notice.ensures.ready.taken
    g.N.Opened.opening c.confirm-booked.result (λ mine n works. c.catch_up.ensures.caught before mine n c.notice.ensures.ready.behind works) c.confirm-booked.ensures.faults
    c.confirm-booked.ensures.confirms (subst (λ (x : Passing). IsFree g.N.Opened.opening x.view) (sym c.notice.ensures.same) c.requires.free)
    c.catch_up.ensures.legal.1

pub returns-clause-grows : goal.returns-clause-grows
returns-clause-grows g c =
    let before = c.notice.new.recorder in
    subst (λ (x : Passing). Grows x.view c.catch_up.new.pass.view) c.notice.ensures.same
    (confirmed_grows c.notice.new.pass c.catch_up.new.pass before c.confirm-booked.new.self c.args.claim c.args.moment c.notice.ensures.ready.taken
    c.confirm-booked.result (λ mine n works. c.catch_up.ensures.caught before mine n c.notice.ensures.ready.behind works) c.confirm-booked.ensures.faults
    c.confirm-booked.ensures.confirms)

pub returns-clause-answer : goal.returns-clause-answer
returns-clause-answer g c =
    let before = c.notice.new.recorder in
    let starts = ap (λ (x : Passing). x.view.opening) c.notice.ensures.same ∙ c.requires.free.starts in
    subst (λ (x : Passing). MatchResult c.confirm-booked.result (λ row. IsBooked c.args.claim c.args.moment row x c.catch_up.new.pass)
    (λ left. (left.0 ≡ c.args.claim) × IsUnbooked c.args.claim left.1 x c.catch_up.new.pass)) c.notice.ensures.same
    (confirmed_so c.notice.new.pass c.catch_up.new.pass before c.confirm-booked.new.self c.args.claim c.args.moment c.notice.ensures.ready.taken
    c.notice.ensures.ready.behind (c.notice.ensures.ready.starts ∙ sym starts) c.notice.ensures.ready.farm c.catch_up.ensures.journal
    (c.catch_up.ensures.leads starts) c.confirm-booked.result (λ mine n works. c.catch_up.ensures.caught before mine n c.notice.ensures.ready.behind works)
    c.confirm-booked.ensures.faults c.catch_up.ensures.trail c.confirm-booked.ensures.confirms)

pub returns-clause-has : goal.returns-clause-has
returns-clause-has g c =
    let before = c.notice.new.recorder in
    let starts = ap (λ (x : Passing). x.view.opening) c.notice.ensures.same ∙ c.requires.free.starts in
    handed_back c.notice.new.pass c.catch_up.new.pass c.args.claim c.args.moment c.confirm-booked.result
    (confirmed_claim c.notice.new.pass c.catch_up.new.pass before c.confirm-booked.new.self c.args.claim c.args.moment c.notice.ensures.ready.taken
    c.confirm-booked.result (λ mine n works. c.catch_up.ensures.caught before mine n c.notice.ensures.ready.behind works) c.confirm-booked.ensures.faults
    c.confirm-booked.ensures.confirms (subst (λ (x : Passing). HasClaim x.view c.args.claim) (sym c.notice.ensures.same) c.requires.has))
    (confirmed_so c.notice.new.pass c.catch_up.new.pass before c.confirm-booked.new.self c.args.claim c.args.moment c.notice.ensures.ready.taken
    c.notice.ensures.ready.behind (c.notice.ensures.ready.starts ∙ sym starts) c.notice.ensures.ready.farm c.catch_up.ensures.journal
    (c.catch_up.ensures.leads starts) c.confirm-booked.result (λ mine n works. c.catch_up.ensures.caught before mine n c.notice.ensures.ready.behind works)
    c.confirm-booked.ensures.faults c.catch_up.ensures.trail c.confirm-booked.ensures.confirms)
