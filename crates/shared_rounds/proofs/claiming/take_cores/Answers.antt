use Rattle.std.proofs.Common.{[]}
use Rattle.shared_rounds.proofs.Held.{cores_lost, cores_taken, goes_then}
use Rattle.shared_rounds.proofs.Sought.{wanted_on}
use Rattle.shared_rounds.proofs.claiming.take_cores.Goals as goal

pub take_burst-requires-clause-amounts : goal.take_burst-requires-clause-amounts
take_burst-requires-clause-amounts g c = (c.requires.wanted.due.sub, c.requires.wanted.cores)

pub take_place-requires-clause-wanted : goal.take_place-requires-clause-wanted
take_place-requires-clause-wanted g c =
    let v = c.args.pass.now.view in
    let u = c.take_burst.new.self.view in
    let goes = cores_taken v u c.args.candidate.now.sub c.args.seen.cores c.requires.holds c.in-Ok.ensures.answer.1 in
    wanted_on v u c.args.candidate.now c.args.seen goes.steps c.requires.wanted

pub take_place-requires-clause-holds : goal.take_place-requires-clause-holds
take_place-requires-clause-holds g c =
    (cores_taken c.args.pass.now.view c.take_burst.new.self.view c.args.candidate.now.sub c.args.seen.cores c.requires.holds c.in-Ok.ensures.answer.1).holds

pub returns-in-Ok-clause-goes : goal.returns-in-Ok-clause-goes
returns-in-Ok-clause-goes g c =
    let v = c.args.pass.now.view in
    let u = c.take_burst.new.self.view in
    let goes = cores_taken v u c.args.candidate.now.sub c.args.seen.cores c.requires.holds c.in-Ok.ensures.answer.1 in
    goes_then [] [] [] v u c.take_place.new.pass.view goes.steps c.take_place.ensures.goes

pub returns-in-Ok-clause-answer : goal.returns-in-Ok-clause-answer
returns-in-Ok-clause-answer g c v saw = c.take_place.ensures.answer v (c.args.pass.now.view, saw, c.in-Ok.ensures.answer.1)

pub returns-in-Err-clause-goes : goal.returns-in-Err-clause-goes
returns-in-Err-clause-goes g c =
    cores_lost c.args.pass.now.view c.take_burst.new.self.view c.args.candidate.now.sub c.args.seen.cores c.requires.holds c.in-Err.why c.in-Err.ensures.answer

pub returns-in-Err-clause-answer : goal.returns-in-Err-clause-answer
returns-in-Err-clause-answer g c v saw = (c.args.seen, c.args.pass.now.view, saw, c.in-Err.ensures.answer)
