use Rattle.std.proofs.Common.{[]}
use Rattle.shared_rounds.proofs.Held.{goes_then}
use Rattle.shared_rounds.proofs.Tried.{seen_claimed}
use Rattle.shared_rounds.proofs.trying.claim_candidate.Goals as goal

pub take_cores-requires-clause-wanted : goal.take_cores-requires-clause-wanted
take_cores-requires-clause-wanted g c = c.in-Ok.ensures.wanted

pub take_cores-requires-clause-holds : goal.take_cores-requires-clause-holds
take_cores-requires-clause-holds g c = c.look_for.ensures.goes.holds

pub returns-in-Ok-clause-goes : goal.returns-in-Ok-clause-goes
returns-in-Ok-clause-goes g c =
    goes_then [] [] [] c.args.pass.now.view c.look_for.new.pass.view c.take_cores.new.pass.view c.look_for.ensures.goes.steps c.take_cores.ensures.goes

pub returns-in-Ok-clause-answer : goal.returns-in-Ok-clause-answer
returns-in-Ok-clause-answer g c =
    seen_claimed c.args.candidate.now c.args.pass.now.view c.take_cores.new.pass.view c.in-Ok.seen c.take_cores.result
    (c.take_cores.ensures.answer c.args.pass.now.view c.in-Ok.ensures.answer)
