use Rattle.std.proofs.Common.{[], ◌∙◌, ap, subst, sym}
use Rattle.shared_bot.specs.booking_recorder.specs.Passing.{Passing}
use Rattle.shared_bot.specs.Passes.{CaughtUp, IsFree}
use Rattle.shared_bot.proofs.Caught.{free_caught, works_none}
use Rattle.shared_rounds.proofs.Planned.{planned_due, planned_so}
use Rattle.shared_rounds.proofs.planning.plan_for_host.Goals as goal

pub catch_up-requires-clause-opening : goal.catch_up-requires-clause-opening
catch_up-requires-clause-opening g c = c.notice.ensures.ready.starts

pub returns-clause-free : goal.returns-clause-free
returns-clause-free g c =
    let before = c.notice.new.recorder in
    free_caught g.N.Opened.opening c.notice.new.pass c.catch_up.new.pass [] 0
    (subst (λ (x : Passing). IsFree g.N.Opened.opening x.view) (sym c.notice.ensures.same) c.requires.free)
    (c.catch_up.ensures.caught before [] 0 c.notice.ensures.ready.behind (works_none before c.notice.ensures.ready.taken)) c.catch_up.ensures.legal.1

pub returns-clause-caught : goal.returns-clause-caught
returns-clause-caught g c =
    let before = c.notice.new.recorder in
    subst (λ (x : Passing). CaughtUp x c.catch_up.new.pass [] 0) c.notice.ensures.same
    (c.catch_up.ensures.caught before [] 0 c.notice.ensures.ready.behind (works_none before c.notice.ensures.ready.taken))

pub returns-clause-plan : goal.returns-clause-plan
returns-clause-plan g c =
    let starts = ap (λ (x : Passing). x.view.opening) c.notice.ensures.same ∙ c.requires.free.starts in
    planned_so c.read.result.now c.catch_up.new.pass.view (c.read.ensures ∙ c.catch_up.ensures.leads starts) c.args.host c.plan_now-planned.result
    c.plan_now-planned.ensures.plan

pub returns-clause-due : goal.returns-clause-due
returns-clause-due g c =
    let starts = ap (λ (x : Passing). x.view.opening) c.notice.ensures.same ∙ c.requires.free.starts in
    planned_due c.read.result.now c.catch_up.new.pass.view (c.read.ensures ∙ c.catch_up.ensures.leads starts) c.plan_now-planned.ensures.kept c.args.host
    (c.dispatch_lists_each_once.ensures c.read.result.now c.args.host) c.plan_now-planned.result c.plan_now-planned.ensures.plan
