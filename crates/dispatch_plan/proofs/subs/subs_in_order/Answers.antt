use Rattle.std.proofs.Common.{◌≡◌, ◌-◌, ◌∙◌, None, Some, length, sym, ap, arith}
use Rattle.farm_types.specs.Farm.{Farm, sub_at, sub_of}
use Rattle.dispatch_plan.proofs.SubList.{all_sorted, none_read, none_sorted, some_sorted}
use Rattle.dispatch_plan.proofs.subs.subs_in_order.Goals as goal

pub loop-show-init : goal.loop-show-init
loop-show-init c =
    record {
      within = c.count_shows-show.ensures.within;
      sorted = none_read c.args.farm.now c.args.allocation c.count_shows-show.result c.new-subs.result.items c.kept.ensures.rows c.new-subs.ensures.items (c.count_shows-show.ensures.value ∙ ap (λ (f : Farm). length f.shows) c.books.ensures.farm);
    }

pub loop-show-preserved-in_default : goal.loop-show-preserved-in_default
loop-show-preserved-in_default c =
    let f = c.args.farm.now in
    let l = c.loop-show in
    let some = c.loop-show-test.true in
    let most = l.invariant.within in
    let none : sub_at f (sub_of (l.show - 1) c.args.allocation) ≡ None =
    sym (c.in_default.ensures.value ∙ ap (λ (g : Farm). sub_at g (sub_of (l.show - 1) c.args.allocation)) c.books-in-loop-show.ensures.farm) in
    record {
      within = omega (arith, most);
      sorted = none_sorted f c.args.allocation l.show l.subs.items (omega (arith, some)) most none l.invariant.sorted;
    }

pub loop-show-preserved : goal.loop-show-preserved
loop-show-preserved c =
    let f = c.args.farm.now in
    let l = c.loop-show in
    let some = c.loop-show-test.true in
    let most = l.invariant.within in
    let found : sub_at f (sub_of (l.show - 1) c.args.allocation) ≡ Some c.in-Some.sub =
    sym (c.in-Some.ensures.value ∙ ap (λ (g : Farm). sub_at g (sub_of (l.show - 1) c.args.allocation)) c.books-in-loop-show.ensures.farm) in
    record {
      within = omega (arith, most);
      sorted = some_sorted f c.args.allocation l.show c.in-Some.sub l.subs.items c.put.new.subs.items (omega (arith, some)) most found l.invariant.sorted c.in_ok-put.ensures;
    }

pub returns : goal.returns
returns c =
    let past = c.loop-show-test.false in
    all_sorted c.args.farm.now c.args.allocation c.loop-show.show c.loop-show.subs.items (omega (arith, past)) c.loop-show.invariant.sorted
