use Rattle.shared_bot.proofs.Caught.{ready_noticed}
use Rattle.shared_bot.proofs.catching_up.notice.Goals as goal

pub returns-clause-ready : goal.returns-clause-ready
returns-clause-ready g c =
    ready_noticed g.N.Opened.opening c.args.pass.now c.notice.new.pass c.args.recorder.now c.notice.new.self c.requires.taken c.requires.opening
    c.notice.ensures.same c.notice.ensures.behind c.notice.ensures.like c.notice.ensures.notices c.rests.ensures.1
