use Rattle.std.proofs.Common.{refl, sym, true≢false}
use Rattle.farm_draft.proofs.PutRows.{picks_all, picks_more, picks_none, picks_past}
use Rattle.farm_draft.proofs.rows.changed_slots.Goals as goal

pub loop-slot-init : goal.loop-slot-init
loop-slot-init c = λ slots changes.
    let gives = c.into_iter-slot-iterator.ensures.into_iter_gives in
    picks_none slots c.args.over.entries changes _ _ c.new-changes.ensures.items gives.0 gives.4

pub loop-slot-preserved : goal.loop-slot-preserved
loop-slot-preserved c = λ slots changes.
    picks_more slots c.args.over.entries changes _ _ _ (c.in-Some.slot, c.in-Some.change) _ c.in-Some.ensures.steps c.in_ok-push.ensures.items (c.loop-slot.invariant slots changes)
    (λ same. true≢false (sym (c.if-changes_nothing.ensures.1 same)))

pub loop-slot-preserved-then-changes_nothing : goal.loop-slot-preserved-then-changes_nothing
loop-slot-preserved-then-changes_nothing c = λ slots changes.
    picks_past slots c.args.over.entries changes _ _ (c.in-Some.slot, c.in-Some.change) _ c.in-Some.ensures.steps (c.loop-slot.invariant slots changes) (c.if-changes_nothing.ensures.0 refl)

pub returns : goal.returns
returns c = λ slots changes.
    picks_all slots c.args.over.entries changes _ _ c.in-None.ensures.steps.0 c.into_iter-slot-iterator.ensures.into_iter_gives.4 (c.loop-slot.invariant slots changes)
