use Rattle.std.proofs.Common.{◌∙◌, List, ap, sym}
use Rattle.farm_types.specs.declared.attempt.DoneItem.{DoneItem}
use Rattle.world_answers.specs.Ending.{is_over}
use Rattle.world_answers.proofs.Ended.{begins_ending, ends_item}
use Rattle.world_answers.proofs.ends.ends_in.Goals as goal

pub loop-item-init : goal.loop-item-init
loop-item-init c = begins_ending c.args.farm.now c.args.host c.args.boot c.args.done.now c.new-ends.result c.new-ends.ensures

pub loop-item-preserved : goal.loop-item-preserved
loop-item-preserved c =
    let over = ap (λ (ds : List DoneItem). is_over c.args.farm.now c.args.host c.args.boot ds c.item-item.result) (sym c.as_slice.ensures)
    ∙ (sym c.is_over.ensures ∙ c.if-is_over.false) in
    ends_item c.args.farm.now c.args.host c.args.boot c.args.done.now c.loop-item.ends c.loop-item.item-index c.item-item.result c.loop-item-test.true
    c.item-item.is
    c.loop-item.invariant over c.push.new.self c.in_ok-push.ensures.ok
