use Rattle.std.proofs.Common.{◌∙◌, sym, ap}
use Rattle.std.specs.List.{prefix_len, insert}
use Rattle.dispatch_plan.proofs.SubList.{comes_after, insert_is}
use Rattle.dispatch_plan.proofs.subs.put.Goals as goal

pub returns : goal.returns
returns c =
    let place = c.place_of-place.ensures.value ∙ ap (prefix_len (comes_after c.args.farm.now c.args.sub)) c.as_slice.ensures.value in
    c.in_ok-insert.ensures.items ∙ (ap (λ n. insert c.args.subs.now.items n c.args.sub) place ∙ sym (insert_is c.args.farm.now c.args.sub c.args.subs.now.items))
