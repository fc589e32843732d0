use Rattle.shared_bot.proofs.Caught.{caught_up, leads_caught, legal_caught, taken_over, trail_caught}
use Rattle.shared_bot.proofs.catching_up.catch_up.Goals as goal

pub returns-clause-taken : goal.returns-clause-taken
returns-clause-taken g c = taken_over c.args.recorder.now c.catch_up.new.self c.catch_up.ensures.hands_over

pub returns-clause-caught : goal.returns-clause-caught
returns-clause-caught g c = λ before mine failures behind works.
    caught_up c.args.pass.now c.catch_up.new.pass before c.args.recorder.now mine failures behind works c.catch_up.ensures.journal
    c.catch_up.ensures.receipts c.catch_up.ensures.faults c.catch_up.ensures.learns c.catch_up.ensures.look

pub returns-clause-legal : goal.returns-clause-legal
returns-clause-legal g c =
    legal_caught c.args.recorder.now c.catch_up.new.pass.view g.N.Opened.opening c.requires.opening c.catch_up.ensures.journal c.legal.ensures

pub returns-clause-leads : goal.returns-clause-leads
returns-clause-leads g c = λ starts.
    leads_caught c.args.recorder.now c.args.pass.now.view c.catch_up.new.pass.view g.N.Opened.opening c.rests.ensures.1 c.requires.opening
    c.catch_up.ensures.learns c.catch_up.ensures.journal starts

pub returns-clause-trail : goal.returns-clause-trail
returns-clause-trail g c =
    trail_caught c.args.recorder.now c.catch_up.new.self c.catch_up.new.pass.view c.catch_up.ensures.hands_over c.catch_up.ensures.trail
