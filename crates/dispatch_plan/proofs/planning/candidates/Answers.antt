use Rattle.std.proofs.Common.{◌∙◌, List, [], refl, sym, ap, subst}
use Rattle.std.specs.List.{flat_map}
use Rattle.farm_types.specs.declared.dispatch.Candidate.{Candidate}
use Rattle.farm_types.specs.declared.rows.SubRow.{SubRow}
use Rattle.dispatch_law.specs.ByIndex.{ranks_in_show, show_of, sorted_subs}
use Rattle.dispatch_plan.specs.Offers.{AreBilled, offered}
use Rattle.dispatch_plan.proofs.NoneFits.{plan_closed, plan_unready}
use Rattle.dispatch_plan.proofs.Plans.{plan_full, plan_is, subs_billed, subs_read}
use Rattle.dispatch_plan.proofs.planning.candidates.Goals as goal

pub returns-then-not-takes_frames : goal.returns-then-not-takes_frames
returns-then-not-takes_frames c = c.new.ensures.items ∙ sym (plan_closed c.args.farm.now c.args.host c.args.row.now c.requires (sym c.if-not-takes_frames.ensures))

pub returns-then-not-has_least_free : goal.returns-then-not-has_least_free
returns-then-not-has_least_free c = c.new-then-not-has_least_free.ensures.items ∙ sym (plan_full c.args.farm.now c.args.host c.args.row.now c.kept.ensures.rows c.requires (sym c.if-not-has_least_free.ensures))

pub returns-then-not-has_ready : goal.returns-then-not-has_ready
returns-then-not-has_ready c =
    c.new-then-not-has_ready.ensures.items
    ∙ sym (plan_unready c.args.farm.now c.args.host c.args.row.now c.kept.ensures.rows c.requires (c.if-not-has_ready.ensures refl))

pub offer_subs-requires-clause-billed : goal.offer_subs-requires-clause-billed
offer_subs-requires-clause-billed c =
    let f = c.args.farm.now in
    let row = c.args.row.now in
    subst (AreBilled f c.args.host) (ap (sorted_subs f) (sym (subs_read f c.args.host row c.kept.ensures.rows c.requires)) ∙ sym (c.as_slice.ensures.value ∙ c.in_ok-subs.ensures))
    (subs_billed f c.args.host row c.kept.ensures.rows c.requires)

pub returns : goal.returns
returns c =
    let f = c.args.farm.now in
    let host = c.args.host in
    let ranks = flat_map (λ (s : SubRow). ranks_in_show f host (show_of s)) in
    c.offer_subs.ensures
    ∙ (ap (λ (ps : List Candidate). offered ps (ranks c.as_slice.result.now)) c.in_ok-plan.ensures.items
    ∙ (ap (λ (ss : List SubRow). offered [] (ranks ss)) (c.as_slice.ensures.value ∙ c.in_ok-subs.ensures)
    ∙ plan_is f host c.args.row.now c.kept.ensures.rows c.requires))
