use Rattle.std.proofs.Common.{◌≡◌, ◌∙◌, ◌+◌, ◌-◌, ◌∷◌, [], ap, sym, rules, SFits, w32, to_z, of_z}
use Rattle.std.proofs.lemmas.Int.{to_z-of_z}
use Rattle.std.proofs.lemmas.Result.{err_from_is_err_and}
use Rattle.frame_range.specs.Away.{away, others_from}
use Rattle.frame_range.specs.Places.{with_all, with_number}
use Rattle.frame_range.proofs.StepLemmas.{Refuses_more, Lists_exit}
use Rattle.frame_range.proofs.OtherLemmas.{others_skip, others_take, others_none}
use Rattle.frame_range.proofs.steps.list_others.Goals as goal

pub loop-offset-preserved-then-offset-size-eq0 : goal.loop-offset-preserved-then-offset-size-eq0
loop-offset-preserved-then-offset-size-eq0 c = record {
  few = c.loop-offset.invariant.few;
  so_far = ap (with_all c.loop-offset.listing) (sym (others_skip _ c.args.up c.args.size c.loop-offset.offset c.args.span c.loop-offset-test.true c.if-offset-size-eq0.true))
      ∙ c.loop-offset.invariant.so_far;
}

pub returns-in_err-list : goal.returns-in_err-list
returns-in_err-list c =
    let p = err_from_is_err_and c.from_residual.result c.from_residual.ensures.1 in
    let fit : SFits w32 c.args.first = c.ranges.first in
    let so = simp to_z-of_z at c.loop-offset.invariant.so_far in
    let same : to_z w32 (of_z w32 c.number_away.result) ≡ away c.args.first c.args.up c.loop-offset.offset = search (rules, to_z-of_z) in
    let all = others_from c.args.first c.args.up c.args.size 0 (c.args.span + 1) in
    let rest = others_from c.args.first c.args.up c.args.size (c.loop-offset.offset + 1) ((c.args.span + 1) - (c.loop-offset.offset + 1)) in
    let take = others_take c.args.first c.args.up c.args.size c.loop-offset.offset c.args.span c.loop-offset-test.true c.if-offset-size-eq0.false in
    Lists_exit _ c.from_residual.result c.args.listing.now all c.list.new.self _ _ p.1 p.2
    (Refuses_more c.in_err-list.field-0.0 c.args.listing.now c.loop-offset.listing (to_z w32 (of_z w32 c.number_away.result) ∷ []) all rest
    (ap (λ z. with_all c.loop-offset.listing (z ∷ rest)) same ∙ ap (with_all c.loop-offset.listing) (sym take) ∙ so) c.in_err-list.ensures)

pub loop-offset-preserved : goal.loop-offset-preserved
loop-offset-preserved c =
    let fit : SFits w32 c.args.first = c.ranges.first in
    let so = simp to_z-of_z at c.loop-offset.invariant.so_far in
    let same : to_z w32 (of_z w32 c.number_away.result) ≡ away c.args.first c.args.up c.loop-offset.offset = search (rules, to_z-of_z) in
    let rest = others_from c.args.first c.args.up c.args.size (c.loop-offset.offset + 1) ((c.args.span + 1) - (c.loop-offset.offset + 1)) in
    let take = others_take c.args.first c.args.up c.args.size c.loop-offset.offset c.args.span c.loop-offset-test.true c.if-offset-size-eq0.false in
    record {
      few = c.in_ok-list.ensures.1;
      so_far = simp to_z-of_z (ap (λ l. with_all l rest) (c.in_ok-list.ensures.0 ∙ ap (with_number c.loop-offset.listing) same) ∙ ap (with_all c.loop-offset.listing) (sym take) ∙ so);
    }

pub returns : goal.returns
returns c =
    let fit : SFits w32 c.args.first = c.ranges.first in
    let so = simp to_z-of_z at c.loop-offset.invariant.so_far in
    let none = others_none c.args.first c.args.up c.args.size c.loop-offset.offset c.args.span c.loop-offset-test.false in
    (ap (with_all c.loop-offset.listing) (sym none) ∙ so, c.loop-offset.invariant.few)
