use Rattle.std.proofs.Common.{arith}
use Rattle.world_answers.proofs.Walked.{begins_walking, ready_item, walk_over, walks_item}
use Rattle.world_answers.proofs.walking.book_in_turn.Goals as goal

pub loop-candidate-init : goal.loop-candidate-init
loop-candidate-init c = begins_walking c.args.walk.now c.args.moment c.args.candidates.now c.requires

pub offer-requires : goal.offer-requires
offer-requires c =
    ready_item c.args.walk.now c.args.moment c.args.candidates.now c.loop-candidate.left c.loop-candidate.candidate-index c.loop-candidate.walk
    c.candidate-item.result
    c.loop-candidate-test.true c.candidate-item.is c.loop-candidate.invariant

pub loop-candidate-preserved : goal.loop-candidate-preserved
loop-candidate-preserved c =
    walks_item c.args.walk.now c.args.moment c.args.candidates.now c.loop-candidate.left c.loop-candidate.candidate-index c.loop-candidate.walk
    c.candidate-item.result
    c.loop-candidate-test.true c.candidate-item.is c.loop-candidate.invariant _ c.offer.new.walk c.in_ok-left.ensures

pub returns : goal.returns
returns c =
    let test = c.loop-candidate-test.false in
    walk_over c.args.walk.now c.args.moment c.args.candidates.now c.loop-candidate.left c.loop-candidate.candidate-index c.loop-candidate.walk
    (omega (arith, test))
    c.loop-candidate.invariant
