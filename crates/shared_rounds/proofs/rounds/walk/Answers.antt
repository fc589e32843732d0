use Rattle.std.proofs.Common.{◌≤◌, ◌+◌, ◌++◌, ◌∷◌, [], List, arith, drop, length, subst, sym, ◌∙◌}
use Rattle.std.specs.Vec.{vec_capacity}
use Rattle.farm_types.specs.declared.dispatch.Cut.TheVariants as cut
use Rattle.dispatcher.specs.Rounds.{cut_of}
use Rattle.shared_rounds.specs.declared.round.Outcome.{Outcome}
use Rattle.shared_rounds.proofs.Walked.{IsWalking, begins_with, due_now, room_first, room_next, room_now, walk_ends, walk_full, walk_stops, walks_on, went_as}
use Rattle.shared_rounds.proofs.rounds.walk.Goals as goal

pub loop-candidate-init : goal.loop-candidate-init
loop-candidate-init g c = (
  begins_with g.N.Opened.opening c.args.moment c.args.pass.now c.args.candidates.now c.args.outcomes.items c.requires.none c.requires.free c.requires.due,
  room_first g.N.Opened.opening c.args.moment c.args.pass.now c.args.candidates.now c.args.outcomes.items (vec_capacity c.args.outcomes) c.requires.none c.requires.room,
)

pub try_candidate-result-requires-clause-free : goal.try_candidate-result-requires-clause-free
try_candidate-result-requires-clause-free g c = c.loop-candidate.invariant.0.free

pub try_candidate-result-requires-clause-due : goal.try_candidate-result-requires-clause-due
try_candidate-result-requires-clause-due g c = due_now g.N.Opened.opening c.args.moment c.args.pass.now c.args.candidates.now c.loop-candidate.pass c.loop-candidate.left c.loop-candidate.outcomes.items c.candidate-item.result c.loop-candidate.candidate-index c.loop-candidate-test.true c.candidate-item.is c.loop-candidate.invariant.0

pub push_reserved-requires : goal.push_reserved-requires
push_reserved-requires g c =
    let few = room_now g.N.Opened.opening c.args.moment c.args.pass.now c.args.candidates.now c.loop-candidate.pass c.loop-candidate.left c.loop-candidate.outcomes.items c.candidate-item.result c.loop-candidate.candidate-index c.loop-candidate-test.true c.candidate-item.is c.loop-candidate.invariant.0 (vec_capacity c.loop-candidate.outcomes) c.loop-candidate.invariant.1 in
    omega (arith, few)

-- no booking was left
pub returns-then-left-eq0-clause-free : goal.returns-then-left-eq0-clause-free
returns-then-left-eq0-clause-free g c =
    let so = walk_full g.N.Opened.opening c.args.moment c.args.pass.now c.args.candidates.now c.loop-candidate.pass c.loop-candidate.left c.loop-candidate.outcomes.items c.candidate-item.result c.loop-candidate.candidate-index c.loop-candidate-test.true c.candidate-item.is c.loop-candidate.invariant.0 c.if-left-eq0.true in
    (went_as g.N.Opened.opening c.args.moment c.args.pass.now c.args.candidates.now c.loop-candidate.outcomes.items cut.Whole c.loop-candidate.pass c.whole.result.outcomes c.whole.result.cut c.whole.ensures.outcomes c.whole.ensures.cut so).free

pub returns-then-left-eq0-clause-walks : goal.returns-then-left-eq0-clause-walks
returns-then-left-eq0-clause-walks g c =
    let so = walk_full g.N.Opened.opening c.args.moment c.args.pass.now c.args.candidates.now c.loop-candidate.pass c.loop-candidate.left c.loop-candidate.outcomes.items c.candidate-item.result c.loop-candidate.candidate-index c.loop-candidate-test.true c.candidate-item.is c.loop-candidate.invariant.0 c.if-left-eq0.true in
    (went_as g.N.Opened.opening c.args.moment c.args.pass.now c.args.candidates.now c.loop-candidate.outcomes.items cut.Whole c.loop-candidate.pass c.whole.result.outcomes c.whole.result.cut c.whole.ensures.outcomes c.whole.ensures.cut so).walks

pub returns-then-left-eq0-clause-grows : goal.returns-then-left-eq0-clause-grows
returns-then-left-eq0-clause-grows g c =
    let so = walk_full g.N.Opened.opening c.args.moment c.args.pass.now c.args.candidates.now c.loop-candidate.pass c.loop-candidate.left c.loop-candidate.outcomes.items c.candidate-item.result c.loop-candidate.candidate-index c.loop-candidate-test.true c.candidate-item.is c.loop-candidate.invariant.0 c.if-left-eq0.true in
    (went_as g.N.Opened.opening c.args.moment c.args.pass.now c.args.candidates.now c.loop-candidate.outcomes.items cut.Whole c.loop-candidate.pass c.whole.result.outcomes c.whole.result.cut c.whole.ensures.outcomes c.whole.ensures.cut so).grows

pub returns-then-left-eq0-clause-booked : goal.returns-then-left-eq0-clause-booked
returns-then-left-eq0-clause-booked g c =
    let so = walk_full g.N.Opened.opening c.args.moment c.args.pass.now c.args.candidates.now c.loop-candidate.pass c.loop-candidate.left c.loop-candidate.outcomes.items c.candidate-item.result c.loop-candidate.candidate-index c.loop-candidate-test.true c.candidate-item.is c.loop-candidate.invariant.0 c.if-left-eq0.true in
    (went_as g.N.Opened.opening c.args.moment c.args.pass.now c.args.candidates.now c.loop-candidate.outcomes.items cut.Whole c.loop-candidate.pass c.whole.result.outcomes c.whole.result.cut c.whole.ensures.outcomes c.whole.ensures.cut so).booked

pub returns-then-left-eq0-clause-cut : goal.returns-then-left-eq0-clause-cut
returns-then-left-eq0-clause-cut g c =
    let so = walk_full g.N.Opened.opening c.args.moment c.args.pass.now c.args.candidates.now c.loop-candidate.pass c.loop-candidate.left c.loop-candidate.outcomes.items c.candidate-item.result c.loop-candidate.candidate-index c.loop-candidate-test.true c.candidate-item.is c.loop-candidate.invariant.0 c.if-left-eq0.true in
    (went_as g.N.Opened.opening c.args.moment c.args.pass.now c.args.candidates.now c.loop-candidate.outcomes.items cut.Whole c.loop-candidate.pass c.whole.result.outcomes c.whole.result.cut c.whole.ensures.outcomes c.whole.ensures.cut so).failed

-- the round goes on
pub loop-candidate-preserved : goal.loop-candidate-preserved
loop-candidate-preserved g c =
    let o : Outcome = record { candidate = c.candidate-item.result; result = c.try_candidate-result.result } in
    let so = walks_on g.N.Opened.opening c.args.moment c.args.pass.now c.args.candidates.now c.loop-candidate.pass c.loop-candidate.left c.loop-candidate.outcomes.items c.candidate-item.result c.loop-candidate.candidate-index c.loop-candidate-test.true c.candidate-item.is c.loop-candidate.invariant.0 (let test = c.if-left-eq0.false in omega (arith, test)) c.try_candidate-result.result c.try_candidate-result.new.pass c.try_candidate-result.ensures.free c.try_candidate-result.ensures.grows c.try_candidate-result.ensures.tries c.try_candidate-result.ensures.gains c.in-Ok.left (sym c.left_after.ensures ∙ c.in-Ok.is) in
    let room = room_next g.N.Opened.opening c.args.moment c.args.pass.now c.args.candidates.now c.loop-candidate.pass c.loop-candidate.left c.loop-candidate.outcomes.items c.candidate-item.result c.loop-candidate.candidate-index c.loop-candidate-test.true c.candidate-item.is c.loop-candidate.invariant.0 (vec_capacity c.loop-candidate.outcomes) o c.loop-candidate.invariant.1 in
    let items = c.push_reserved.ensures.items in
    let capacity = c.push_reserved.ensures.capacity in
    subst (λ (os : List Outcome). IsWalking g.N.Opened.opening c.args.moment c.args.pass.now c.args.candidates.now c.try_candidate-result.new.pass c.in-Ok.left os (drop (c.loop-candidate.candidate-index + 1) c.args.candidates.now) × (length os + length (drop (c.loop-candidate.candidate-index + 1) c.args.candidates.now) ≤ vec_capacity c.push_reserved.new.self)) (sym items) (so, omega (arith, room, capacity))

-- a fault ended it
pub returns-in-Err-clause-free : goal.returns-in-Err-clause-free
returns-in-Err-clause-free g c =
    let so = walk_stops g.N.Opened.opening c.args.moment c.args.pass.now c.args.candidates.now c.loop-candidate.pass c.loop-candidate.left c.loop-candidate.outcomes.items c.candidate-item.result c.loop-candidate.candidate-index c.loop-candidate-test.true c.candidate-item.is c.loop-candidate.invariant.0 (let test = c.if-left-eq0.false in omega (arith, test)) c.try_candidate-result.result c.try_candidate-result.new.pass c.try_candidate-result.ensures.free c.try_candidate-result.ensures.grows c.try_candidate-result.ensures.tries c.try_candidate-result.ensures.gains c.in-Err.fault (sym c.left_after.ensures ∙ c.in-Err.is) in
    (went_as g.N.Opened.opening c.args.moment c.args.pass.now c.args.candidates.now (c.loop-candidate.outcomes.items ++ record { candidate = c.candidate-item.result; result = c.try_candidate-result.result } ∷ []) (cut_of c.in-Err.fault) c.try_candidate-result.new.pass
    c.cut_short.result.outcomes c.cut_short.result.cut (c.cut_short.ensures.outcomes ∙ c.push_reserved.ensures.items) c.cut_short.ensures.cut so).free

pub returns-in-Err-clause-walks : goal.returns-in-Err-clause-walks
returns-in-Err-clause-walks g c =
    let so = walk_stops g.N.Opened.opening c.args.moment c.args.pass.now c.args.candidates.now c.loop-candidate.pass c.loop-candidate.left c.loop-candidate.outcomes.items c.candidate-item.result c.loop-candidate.candidate-index c.loop-candidate-test.true c.candidate-item.is c.loop-candidate.invariant.0 (let test = c.if-left-eq0.false in omega (arith, test)) c.try_candidate-result.result c.try_candidate-result.new.pass c.try_candidate-result.ensures.free c.try_candidate-result.ensures.grows c.try_candidate-result.ensures.tries c.try_candidate-result.ensures.gains c.in-Err.fault (sym c.left_after.ensures ∙ c.in-Err.is) in
    (went_as g.N.Opened.opening c.args.moment c.args.pass.now c.args.candidates.now (c.loop-candidate.outcomes.items ++ record { candidate = c.candidate-item.result; result = c.try_candidate-result.result } ∷ []) (cut_of c.in-Err.fault) c.try_candidate-result.new.pass
    c.cut_short.result.outcomes c.cut_short.result.cut (c.cut_short.ensures.outcomes ∙ c.push_reserved.ensures.items) c.cut_short.ensures.cut so).walks

pub returns-in-Err-clause-grows : goal.returns-in-Err-clause-grows
returns-in-Err-clause-grows g c =
    let so = walk_stops g.N.Opened.opening c.args.moment c.args.pass.now c.args.candidates.now c.loop-candidate.pass c.loop-candidate.left c.loop-candidate.outcomes.items c.candidate-item.result c.loop-candidate.candidate-index c.loop-candidate-test.true c.candidate-item.is c.loop-candidate.invariant.0 (let test = c.if-left-eq0.false in omega (arith, test)) c.try_candidate-result.result c.try_candidate-result.new.pass c.try_candidate-result.ensures.free c.try_candidate-result.ensures.grows c.try_candidate-result.ensures.tries c.try_candidate-result.ensures.gains c.in-Err.fault (sym c.left_after.ensures ∙ c.in-Err.is) in
    (went_as g.N.Opened.opening c.args.moment c.args.pass.now c.args.candidates.now (c.loop-candidate.outcomes.items ++ record { candidate = c.candidate-item.result; result = c.try_candidate-result.result } ∷ []) (cut_of c.in-Err.fault) c.try_candidate-result.new.pass
    c.cut_short.result.outcomes c.cut_short.result.cut (c.cut_short.ensures.outcomes ∙ c.push_reserved.ensures.items) c.cut_short.ensures.cut so).grows

pub returns-in-Err-clause-booked : goal.returns-in-Err-clause-booked
returns-in-Err-clause-booked g c =
    let so = walk_stops g.N.Opened.opening c.args.moment c.args.pass.now c.args.candidates.now c.loop-candidate.pass c.loop-candidate.left c.loop-candidate.outcomes.items c.candidate-item.result c.loop-candidate.candidate-index c.loop-candidate-test.true c.candidate-item.is c.loop-candidate.invariant.0 (let test = c.if-left-eq0.false in omega (arith, test)) c.try_candidate-result.result c.try_candidate-result.new.pass c.try_candidate-result.ensures.free c.try_candidate-result.ensures.grows c.try_candidate-result.ensures.tries c.try_candidate-result.ensures.gains c.in-Err.fault (sym c.left_after.ensures ∙ c.in-Err.is) in
    (went_as g.N.Opened.opening c.args.moment c.args.pass.now c.args.candidates.now (c.loop-candidate.outcomes.items ++ record { candidate = c.candidate-item.result; result = c.try_candidate-result.result } ∷ []) (cut_of c.in-Err.fault) c.try_candidate-result.new.pass
    c.cut_short.result.outcomes c.cut_short.result.cut (c.cut_short.ensures.outcomes ∙ c.push_reserved.ensures.items) c.cut_short.ensures.cut so).booked

pub returns-in-Err-clause-cut : goal.returns-in-Err-clause-cut
returns-in-Err-clause-cut g c =
    let so = walk_stops g.N.Opened.opening c.args.moment c.args.pass.now c.args.candidates.now c.loop-candidate.pass c.loop-candidate.left c.loop-candidate.outcomes.items c.candidate-item.result c.loop-candidate.candidate-index c.loop-candidate-test.true c.candidate-item.is c.loop-candidate.invariant.0 (let test = c.if-left-eq0.false in omega (arith, test)) c.try_candidate-result.result c.try_candidate-result.new.pass c.try_candidate-result.ensures.free c.try_candidate-result.ensures.grows c.try_candidate-result.ensures.tries c.try_candidate-result.ensures.gains c.in-Err.fault (sym c.left_after.ensures ∙ c.in-Err.is) in
    (went_as g.N.Opened.opening c.args.moment c.args.pass.now c.args.candidates.now (c.loop-candidate.outcomes.items ++ record { candidate = c.candidate-item.result; result = c.try_candidate-result.result } ∷ []) (cut_of c.in-Err.fault) c.try_candidate-result.new.pass
    c.cut_short.result.outcomes c.cut_short.result.cut (c.cut_short.ensures.outcomes ∙ c.push_reserved.ensures.items) c.cut_short.ensures.cut so).failed

-- all candidates were tried
pub returns-clause-free : goal.returns-clause-free
returns-clause-free g c =
    let past = c.loop-candidate-test.false in
    let so = walk_ends g.N.Opened.opening c.args.moment c.args.pass.now c.args.candidates.now c.loop-candidate.pass c.loop-candidate.left c.loop-candidate.candidate-index c.loop-candidate.outcomes.items (omega (arith, past)) c.loop-candidate.invariant.0 in
    (went_as g.N.Opened.opening c.args.moment c.args.pass.now c.args.candidates.now c.loop-candidate.outcomes.items cut.Whole c.loop-candidate.pass c.whole-2.result.outcomes c.whole-2.result.cut c.whole-2.ensures.outcomes c.whole-2.ensures.cut so).free

pub returns-clause-walks : goal.returns-clause-walks
returns-clause-walks g c =
    let past = c.loop-candidate-test.false in
    let so = walk_ends g.N.Opened.opening c.args.moment c.args.pass.now c.args.candidates.now c.loop-candidate.pass c.loop-candidate.left c.loop-candidate.candidate-index c.loop-candidate.outcomes.items (omega (arith, past)) c.loop-candidate.invariant.0 in
    (went_as g.N.Opened.opening c.args.moment c.args.pass.now c.args.candidates.now c.loop-candidate.outcomes.items cut.Whole c.loop-candidate.pass c.whole-2.result.outcomes c.whole-2.result.cut c.whole-2.ensures.outcomes c.whole-2.ensures.cut so).walks

pub returns-clause-grows : goal.returns-clause-grows
returns-clause-grows g c =
    let past = c.loop-candidate-test.false in
    let so = walk_ends g.N.Opened.opening c.args.moment c.args.pass.now c.args.candidates.now c.loop-candidate.pass c.loop-candidate.left c.loop-candidate.candidate-index c.loop-candidate.outcomes.items (omega (arith, past)) c.loop-candidate.invariant.0 in
    (went_as g.N.Opened.opening c.args.moment c.args.pass.now c.args.candidates.now c.loop-candidate.outcomes.items cut.Whole c.loop-candidate.pass c.whole-2.result.outcomes c.whole-2.result.cut c.whole-2.ensures.outcomes c.whole-2.ensures.cut so).grows

pub returns-clause-booked : goal.returns-clause-booked
returns-clause-booked g c =
    let past = c.loop-candidate-test.false in
    let so = walk_ends g.N.Opened.opening c.args.moment c.args.pass.now c.args.candidates.now c.loop-candidate.pass c.loop-candidate.left c.loop-candidate.candidate-index c.loop-candidate.outcomes.items (omega (arith, past)) c.loop-candidate.invariant.0 in
    (went_as g.N.Opened.opening c.args.moment c.args.pass.now c.args.candidates.now c.loop-candidate.outcomes.items cut.Whole c.loop-candidate.pass c.whole-2.result.outcomes c.whole-2.result.cut c.whole-2.ensures.outcomes c.whole-2.ensures.cut so).booked

pub returns-clause-cut : goal.returns-clause-cut
returns-clause-cut g c =
    let past = c.loop-candidate-test.false in
    let so = walk_ends g.N.Opened.opening c.args.moment c.args.pass.now c.args.candidates.now c.loop-candidate.pass c.loop-candidate.left c.loop-candidate.candidate-index c.loop-candidate.outcomes.items (omega (arith, past)) c.loop-candidate.invariant.0 in
    (went_as g.N.Opened.opening c.args.moment c.args.pass.now c.args.candidates.now c.loop-candidate.outcomes.items cut.Whole c.loop-candidate.pass c.whole-2.result.outcomes c.whole-2.result.cut c.whole-2.ensures.outcomes c.whole-2.ensures.cut so).failed
