use Rattle.std.proofs.Common.{ℕ, subst, arith, Result}
use Rattle.booking_recorder.specs.recorder.specs.declared.refusal.RecordFault.{RecordFault}
use Rattle.dispatcher.specs.Rounds.{Offers}
use Rattle.dispatcher.proofs.Walking.{alone_at, begins_walking, ready_now, room_left, walk_ends, walk_stops, walks_on}
use Rattle.dispatcher.proofs.rounds.book_in_turn.Goals as goal

pub loop-candidate-init : goal.loop-candidate-init
loop-candidate-init g c =
    begins_walking g.K.Keeper.commits g.K.Keeper.tells g.K.Keeper.faults c.args.recorder.now c.args.moment c.args.candidates.now c.requires.ready

pub offer-requires-clause-alone : goal.offer-requires-clause-alone
offer-requires-clause-alone g c =
    alone_at g.K.Keeper.commits g.K.Keeper.tells g.K.Keeper.faults c.args.recorder.now c.args.moment c.args.candidates.now c.loop-candidate.recorder
    c.loop-candidate.left c.candidate-item.result c.loop-candidate.candidate-index c.loop-candidate.invariant c.requires.alone

pub offer-requires-clause-room : goal.offer-requires-clause-room
offer-requires-clause-room g c =
    room_left g.K.Keeper.commits g.K.Keeper.tells g.K.Keeper.faults c.args.recorder.now c.args.moment c.args.candidates.now c.loop-candidate.recorder
    c.loop-candidate.left c.candidate-item.result c.loop-candidate.candidate-index c.loop-candidate.invariant c.requires.room

pub offer-requires-clause-ready : goal.offer-requires-clause-ready
offer-requires-clause-ready g c =
    ready_now g.K.Keeper.commits g.K.Keeper.tells g.K.Keeper.faults c.args.recorder.now c.args.moment c.args.candidates.now c.loop-candidate.recorder
    c.loop-candidate.left c.candidate-item.result c.loop-candidate.candidate-index c.loop-candidate.invariant c.loop-candidate-test.true c.candidate-item.is

pub loop-candidate-preserved : goal.loop-candidate-preserved
loop-candidate-preserved g c =
    walks_on g.K.Keeper.commits g.K.Keeper.tells g.K.Keeper.faults c.args.recorder.now c.args.moment c.args.candidates.now c.loop-candidate.recorder
    c.loop-candidate.left c.candidate-item.result c.loop-candidate.candidate-index c.loop-candidate.invariant c.loop-candidate-test.true c.candidate-item.is
    c.offer.new.recorder c.in-Ok.left
    (subst
    (λ (r : Result ℕ RecordFault).
    Offers g.K.Keeper.commits g.K.Keeper.tells g.K.Keeper.faults c.loop-candidate.left c.loop-candidate.recorder c.candidate-item.result c.args.moment r c.offer.new.recorder)
    c.in-Ok.is c.offer.ensures)

-- how it went where a fault ended it
pub returns-in-Err-clause-round : goal.returns-in-Err-clause-round
returns-in-Err-clause-round g c =
    (walk_stops g.K.Keeper.commits g.K.Keeper.tells g.K.Keeper.faults c.args.recorder.now c.args.moment c.args.candidates.now c.loop-candidate.recorder
    c.loop-candidate.left c.candidate-item.result c.loop-candidate.candidate-index c.loop-candidate.invariant c.loop-candidate-test.true c.candidate-item.is
    c.in-Err.fault c.cut_by.result c.offer.new.recorder c.cut_by.ensures.cut c.cut_by.ensures.booked
    (subst
    (λ (r : Result ℕ RecordFault).
    Offers g.K.Keeper.commits g.K.Keeper.tells g.K.Keeper.faults c.loop-candidate.left c.loop-candidate.recorder c.candidate-item.result c.args.moment r c.offer.new.recorder)
    c.in-Err.is c.offer.ensures)).round_is

pub returns-in-Err-clause-went : goal.returns-in-Err-clause-went
returns-in-Err-clause-went g c =
    (walk_stops g.K.Keeper.commits g.K.Keeper.tells g.K.Keeper.faults c.args.recorder.now c.args.moment c.args.candidates.now c.loop-candidate.recorder
    c.loop-candidate.left c.candidate-item.result c.loop-candidate.candidate-index c.loop-candidate.invariant c.loop-candidate-test.true c.candidate-item.is
    c.in-Err.fault c.cut_by.result c.offer.new.recorder c.cut_by.ensures.cut c.cut_by.ensures.booked
    (subst
    (λ (r : Result ℕ RecordFault).
    Offers g.K.Keeper.commits g.K.Keeper.tells g.K.Keeper.faults c.loop-candidate.left c.loop-candidate.recorder c.candidate-item.result c.args.moment r c.offer.new.recorder)
    c.in-Err.is c.offer.ensures)).went

pub returns-in-Err-clause-same : goal.returns-in-Err-clause-same
returns-in-Err-clause-same g c =
    (walk_stops g.K.Keeper.commits g.K.Keeper.tells g.K.Keeper.faults c.args.recorder.now c.args.moment c.args.candidates.now c.loop-candidate.recorder
    c.loop-candidate.left c.candidate-item.result c.loop-candidate.candidate-index c.loop-candidate.invariant c.loop-candidate-test.true c.candidate-item.is
    c.in-Err.fault c.cut_by.result c.offer.new.recorder c.cut_by.ensures.cut c.cut_by.ensures.booked
    (subst
    (λ (r : Result ℕ RecordFault).
    Offers g.K.Keeper.commits g.K.Keeper.tells g.K.Keeper.faults c.loop-candidate.left c.loop-candidate.recorder c.candidate-item.result c.args.moment r c.offer.new.recorder)
    c.in-Err.is c.offer.ensures)).same

pub returns-clause-round : goal.returns-clause-round
returns-clause-round g c =
    let test = c.loop-candidate-test.false in
    (walk_ends g.K.Keeper.commits g.K.Keeper.tells g.K.Keeper.faults c.args.recorder.now c.args.moment c.args.candidates.now c.loop-candidate.recorder
    c.loop-candidate.left c.loop-candidate.candidate-index c.walked.result (omega (arith, test)) c.loop-candidate.invariant c.walked.ensures.cut
    c.walked.ensures.booked).round_is

pub returns-clause-went : goal.returns-clause-went
returns-clause-went g c =
    let test = c.loop-candidate-test.false in
    (walk_ends g.K.Keeper.commits g.K.Keeper.tells g.K.Keeper.faults c.args.recorder.now c.args.moment c.args.candidates.now c.loop-candidate.recorder
    c.loop-candidate.left c.loop-candidate.candidate-index c.walked.result (omega (arith, test)) c.loop-candidate.invariant c.walked.ensures.cut
    c.walked.ensures.booked).went

pub returns-clause-same : goal.returns-clause-same
returns-clause-same g c =
    let test = c.loop-candidate-test.false in
    (walk_ends g.K.Keeper.commits g.K.Keeper.tells g.K.Keeper.faults c.args.recorder.now c.args.moment c.args.candidates.now c.loop-candidate.recorder
    c.loop-candidate.left c.loop-candidate.candidate-index c.walked.result (omega (arith, test)) c.loop-candidate.invariant c.walked.ensures.cut
    c.walked.ensures.booked).same
