use Rattle.std.proofs.Common.{◌≡◌, ◌+◌, ◌-◌, ◌/◌, ◌∷◌, [], arith, rules, SFits, w32, to_z, of_z, ◌+ℤ◌}
use Rattle.std.proofs.lemmas.Int.{to_z-of_z}
use Rattle.std.proofs.lemmas.Result.{err_from_is_err_and}
use Rattle.frame_range.specs.Away.{away, stride}
use Rattle.frame_range.specs.Steps.{steps_from}
use Rattle.frame_range.proofs.StepLemmas.{Refuses_more, Lists_exit, steps_now, steps_done, steps_next}
use Rattle.frame_range.proofs.steps.list_steps.Goals as goal

pub returns-in_err-list : goal.returns-in_err-list
returns-in_err-list c =
    let p = err_from_is_err_and c.from_residual.result c.from_residual.ensures.1 in
    let fit : SFits w32 c.args.first = c.ranges.first in
    let so = simp to_z-of_z at c.loop-offset.invariant.so_far in
    let same : to_z w32 (of_z w32 c.number_away.result) ≡ away c.args.first c.args.up c.loop-offset.offset = search (rules, to_z-of_z) in
    let step = stride c.args.up c.args.size in
    let here = away c.args.first c.args.up c.loop-offset.offset in
    let all = steps_from c.args.first step (c.args.span / c.args.size + 1) in
    let left = (c.args.span - c.loop-offset.offset) / c.args.size in
    Lists_exit _ c.from_residual.result c.args.listing.now all c.list.new.self _ _ p.1 p.2
    (Refuses_more c.in_err-list.field-0.0 c.args.listing.now c.loop-offset.listing (to_z w32 (of_z w32 c.number_away.result) ∷ []) all
    (steps_from (here +ℤ step) step left)
    (steps_now c.args.listing.now c.loop-offset.listing all _ here step left same so) c.in_err-list.ensures)

pub returns-then-span-offset : goal.returns-then-span-offset
returns-then-span-offset c =
    let fit : SFits w32 c.args.first = c.ranges.first in
    let so = simp to_z-of_z at c.loop-offset.invariant.so_far in
    let same : to_z w32 (of_z w32 c.number_away.result) ≡ away c.args.first c.args.up c.loop-offset.offset = search (rules, to_z-of_z) in
    let step = stride c.args.up c.args.size in
    steps_done c.args.listing.now c.loop-offset.listing c.list.new.self (steps_from c.args.first step (c.args.span / c.args.size + 1)) _ _ step
    (c.args.span - c.loop-offset.offset) c.args.size same c.if-span-offset.true so c.in_ok-list.ensures

pub loop-offset-preserved : goal.loop-offset-preserved
loop-offset-preserved c =
    let fit : SFits w32 c.args.first = c.ranges.first in
    let so = simp to_z-of_z at c.loop-offset.invariant.so_far in
    let same : to_z w32 (of_z w32 c.number_away.result) ≡ away c.args.first c.args.up c.loop-offset.offset = search (rules, to_z-of_z) in
    let step = stride c.args.up c.args.size in
    record {
      within = omega arith;
      so_far = simp to_z-of_z (steps_next c.args.listing.now c.loop-offset.listing c.list.new.self (steps_from c.args.first step (c.args.span / c.args.size + 1)) _
          c.args.first c.args.up c.loop-offset.offset c.args.span c.args.size same c.requires.size c.if-span-offset.false so c.in_ok-list.ensures.0);
    }
