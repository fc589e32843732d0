use Rattle.std.proofs.Common.{◌≡◌, List, ap, sym, subst, take, ◌∙◌}
use Rattle.farm_types.specs.declared.dispatch.Candidate.{Candidate}
use Rattle.farm_types.specs.declared.limits.TheConstants.{BOOKINGS_EACH}
use Rattle.farm_types.specs.Dispatch.{plan_for, round_from}
use Rattle.farm_types.specs.Farm.{Farm}
use Rattle.booking_recorder.specs.recorder.specs.Recording.{ChangesNone}
use Rattle.booking_recorder.specs.Going.{GoesOn}
use Rattle.dispatcher.specs.Ready.{AreReady}
use Rattle.dispatcher.specs.Rounds.{HasWalked, is_store_cut}
use Rattle.dispatcher.proofs.Candidates.{plan_ready}
use Rattle.dispatcher.proofs.Walking.{none_went}
use Rattle.dispatcher.proofs.rounds.book_alone.Goals as goal

pub book_in_turn-requires-clause-ready : goal.book_in_turn-requires-clause-ready
book_in_turn-requires-clause-ready g c =
    let f = c.args.recorder.now.farm in
    let planned : c.as_slice.result.now ≡ plan_for f c.args.host =
    c.as_slice.ensures ∙ (c.in-Ok.ensures ∙ ap (λ (now : Farm). plan_for now c.args.host) c.read.ensures) in
    subst (AreReady f) (sym planned) (plan_ready f c.args.host (c.dispatch_lists_each_once.ensures f c.args.host))

pub returns-in-Ok-clause-round : goal.returns-in-Ok-clause-round
returns-in-Ok-clause-round g c =
    let f = c.args.recorder.now.farm in
    let planned : c.as_slice.result.now ≡ plan_for f c.args.host =
    c.as_slice.ensures ∙ (c.in-Ok.ensures ∙ ap (λ (now : Farm). plan_for now c.args.host) c.read.ensures) in
    subst (λ (cs : List Candidate). HasWalked f (round_from BOOKINGS_EACH f c.args.moment cs) c.book_in_turn.result c.book_in_turn.new.recorder.farm) planned
    c.book_in_turn.ensures.round

pub returns-in-Ok-clause-same : goal.returns-in-Ok-clause-same
returns-in-Ok-clause-same g c =
    let f = c.args.recorder.now.farm in
    let planned : c.as_slice.result.now ≡ plan_for f c.args.host =
    c.as_slice.ensures ∙ (c.in-Ok.ensures ∙ ap (λ (now : Farm). plan_for now c.args.host) c.read.ensures) in
    subst (λ (cs : List Candidate). ChangesNone f (round_from BOOKINGS_EACH f c.args.moment cs) → c.book_in_turn.new.recorder.keeper ≡ c.args.recorder.now.keeper) planned
    c.book_in_turn.ensures.same

pub returns-in-Ok-clause-went : goal.returns-in-Ok-clause-went
returns-in-Ok-clause-went g c =
    let f = c.args.recorder.now.farm in
    let planned : c.as_slice.result.now ≡ plan_for f c.args.host =
    c.as_slice.ensures ∙ (c.in-Ok.ensures ∙ ap (λ (now : Farm). plan_for now c.args.host) c.read.ensures) in
    subst
    (λ (cs : List Candidate).
    GoesOn g.K.Keeper.commits g.K.Keeper.tells g.K.Keeper.faults c.args.recorder.now c.book_in_turn.new.recorder (round_from BOOKINGS_EACH f c.args.moment cs)
    (take c.book_in_turn.result.booked (round_from BOOKINGS_EACH f c.args.moment cs)) (is_store_cut c.book_in_turn.result.cut))
    planned c.book_in_turn.ensures.went

pub returns-in-Err-clause-went : goal.returns-in-Err-clause-went
returns-in-Err-clause-went g c =
    (none_went g.K.Keeper.commits g.K.Keeper.tells g.K.Keeper.faults c.args.recorder.now c.args.moment (plan_for c.args.recorder.now.farm c.args.host) c.walked.result
    c.walked.ensures.cut c.walked.ensures.booked).went
