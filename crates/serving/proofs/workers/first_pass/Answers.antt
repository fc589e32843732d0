use Rattle.std.proofs.Common.{◌∙◌}
use Rattle.shared_sessions.specs.shared_bot.proofs.Caught.{taken_over}
use Rattle.serving.proofs.FirstPasses.{free_learnt, legal_seen, split_handed}
use Rattle.serving.proofs.workers.first_pass.Goals as goal

pub returns-clause-free : goal.returns-clause-free
returns-clause-free g c =
    free_learnt g.N.Opened.opening c.next_pass-pass.result.view c.catch_up.new.pass.view c.next_pass-pass.ensures.free c.catch_up.ensures.learns
    (legal_seen g.N.Opened.opening c.next_pass-pass.new.recorder.view c.catch_up.new.pass.view.journal
    (c.next_pass-pass.ensures.split.opening ∙ c.requires.opening) c.legal.ensures.1 c.catch_up.ensures.journal)

pub returns-clause-split : goal.returns-clause-split
returns-clause-split g c =
    split_handed c.args.recorder.now c.next_pass-pass.new.recorder c.catch_up.new.self c.next_pass-pass.ensures.split c.catch_up.ensures.hands_over

pub returns-clause-taken : goal.returns-clause-taken
returns-clause-taken g c = taken_over c.next_pass-pass.new.recorder c.catch_up.new.self c.catch_up.ensures.hands_over
