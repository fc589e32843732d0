use Rattle.std.proofs.Common.{◌≡◌, ◌∙◌, List, subst, sym}
use Rattle.std.specs.Prelude.{OnOk}
use Rattle.farm_types.specs.declared.dispatch.Candidate.{Candidate}
use Rattle.farm_types.specs.declared.limits.TheConstants.{BOOKINGS_EACH}
use Rattle.farm_types.specs.Dispatch.{plan_for, round_from}
use Rattle.dispatcher.specs.Ready.{AreReady}
use Rattle.dispatcher.proofs.Candidates.{plan_ready}
use Rattle.world_answers.specs.Walking.{WalkedOn}
use Rattle.world_answers.proofs.walking.book_round.Goals as goal

pub book_in_turn-requires : goal.book_in_turn-requires
book_in_turn-requires c =
    let f = c.args.walk.now.farm in
    let planned : c.as_slice.result.now ≡ plan_for f c.args.host = c.as_slice.ensures ∙ c.in_ok-candidates.ensures in
    subst (AreReady f) (sym planned) (plan_ready f c.args.host (c.dispatch_lists_each_once.ensures f c.args.host))

pub returns : goal.returns
returns c =
    let f = c.args.walk.now.farm in
    let planned : c.as_slice.result.now ≡ plan_for f c.args.host = c.as_slice.ensures ∙ c.in_ok-candidates.ensures in
    subst (λ (cs : List Candidate). OnOk c.book_in_turn.result
    (WalkedOn c.args.walk.now (round_from BOOKINGS_EACH f c.args.moment cs) c.book_in_turn.new.walk)) planned
    c.book_in_turn.ensures
