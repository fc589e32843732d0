use Rattle.std.proofs.Common.{◌∙◌, ◌+◌, ◌/◌, ap, sym, arith, SFits, w32}
use Rattle.std.proofs.lemmas.Int.{to_z-of_z}
use Rattle.std.proofs.lemmas.Result.{err_from_is_err_and}
use Rattle.frame_range.specs.Away.{stride, halves_from}
use Rattle.frame_range.specs.Places.{with_all}
use Rattle.frame_range.specs.Steps.{steps_from}
use Rattle.frame_range.proofs.StepLemmas.{Refuses_more, Lists_exit, with_all-append}
use Rattle.frame_range.proofs.OtherLemmas.{halves_more, halves_none}
use Rattle.frame_range.proofs.steps.list_halves.Goals as goal

pub returns-in_err-list_steps : goal.returns-in_err-list_steps
returns-in_err-list_steps c =
    let p = err_from_is_err_and c.from_residual.result c.from_residual.ensures.1 in
    let fit : SFits w32 c.args.first = c.ranges.first in
    let so = simp to_z-of_z at c.loop-step.invariant.so_far in
    let more = halves_more c.args.first c.args.up c.args.span so.0 c.loop-step.step (omega arith) so.1 in
    let now = steps_from c.args.first (stride c.args.up c.loop-step.step) (c.args.span / c.loop-step.step + 1) in
    let failed = simp to_z-of_z at c.in_err-list_steps.ensures in
    Lists_exit _ c.from_residual.result c.args.listing.now (halves_from c.args.first c.args.up c.args.span c.args.size c.args.size) c.list_steps.new.listing _ _ p.1 p.2
    (Refuses_more c.in_err-list_steps.field-0.0 c.args.listing.now c.loop-step.listing now (halves_from c.args.first c.args.up c.args.span c.args.size c.args.size)
    (halves_from c.args.first c.args.up c.args.span more.0 (c.loop-step.step / 2))
    (ap (with_all c.loop-step.listing) (sym more.2) ∙ so.2) failed)

pub loop-step-preserved : goal.loop-step-preserved
loop-step-preserved c =
    let fit : SFits w32 c.args.first = c.ranges.first in
    let so = simp to_z-of_z at c.loop-step.invariant.so_far in
    let done = simp to_z-of_z at c.in_ok-list_steps.ensures in
    let more = halves_more c.args.first c.args.up c.args.span so.0 c.loop-step.step (omega arith) so.1 in
    let rest = halves_from c.args.first c.args.up c.args.span more.0 (c.loop-step.step / 2) in
    let now = steps_from c.args.first (stride c.args.up c.loop-step.step) (c.args.span / c.loop-step.step + 1) in
    record {
      few = done.1;
      so_far = (more.0, more.1, simp to_z-of_z (ap (λ l. with_all l rest) done.0 ∙ sym (with_all-append c.loop-step.listing now rest) ∙ ap (with_all c.loop-step.listing) (sym more.2) ∙ so.2));
    }

pub returns : goal.returns
returns c =
    let fit : SFits w32 c.args.first = c.ranges.first in
    let so = simp to_z-of_z at c.loop-step.invariant.so_far in
    let none = halves_none c.args.first c.args.up c.args.span so.0 c.loop-step.step (omega arith) in
    (ap (with_all c.loop-step.listing) (sym none) ∙ so.2, c.loop-step.invariant.few)
