use Rattle.std.proofs.Common.{◌+◌, ◌∙◌, ◌<◌, drop, length, refl, sym, ap, subst, arith}
use Rattle.std.specs.List.{flat_map}
use Rattle.std.proofs.lemmas.Option.{slice_get_read}
use Rattle.farm_types.specs.declared.limits.TheConstants.{MOST_SHOWS}
use Rattle.farm_types.specs.declared.rows.SubRow.{SubRow}
use Rattle.farm_types.specs.Farm.{sub_of}
use Rattle.dispatch_law.specs.ByIndex.{ranks_in_show, show_of}
use Rattle.dispatch_plan.specs.Offers.{offered}
use Rattle.dispatch_plan.proofs.JobSteps.{all_offered, piece_step}
use Rattle.dispatch_plan.proofs.planning.offer_subs.Goals as goal

pub offer_show-requires-clause-there : goal.offer_show-requires-clause-there
offer_show-requires-clause-there c =
    let subs = c.args.subs.now in
    (c.requires.billed c.loop-sub.sub-index c.sub-item.result (slice_get_read subs (length subs) c.loop-sub.sub-index c.sub-item.result refl c.loop-sub-test.true c.sub-item.is)).there

pub offer_show-requires-clause-within : goal.offer_show-requires-clause-within
offer_show-requires-clause-within c =
    let subs = c.args.subs.now in
    let it = c.requires.billed c.loop-sub.sub-index c.sub-item.result (slice_get_read subs (length subs) c.loop-sub.sub-index c.sub-item.result refl c.loop-sub-test.true c.sub-item.is) in
    subst (λ n. n < MOST_SHOWS) (sym c.show_of.ensures) it.show_within

pub offer_show-requires-clause-billed : goal.offer_show-requires-clause-billed
offer_show-requires-clause-billed c =
    let subs = c.args.subs.now in
    let it = c.requires.billed c.loop-sub.sub-index c.sub-item.result (slice_get_read subs (length subs) c.loop-sub.sub-index c.sub-item.result refl c.loop-sub-test.true c.sub-item.is) in
    λ row at. ap (λ n. sub_of n row.alloc) c.show_of.ensures ∙ it.billed row at

pub loop-sub-preserved : goal.loop-sub-preserved
loop-sub-preserved c =
    let f = c.args.farm.now in
    let subs = c.args.subs.now in
    let host = c.args.host in
    let next = flat_map (λ (s : SubRow). ranks_in_show f host (show_of s)) (drop (c.loop-sub.sub-index + 1) subs) in
    record {
      items =
          ap (λ ps. offered ps next) (c.offer_show.ensures.items ∙ ap (λ n. offered c.loop-sub.plan.items (ranks_in_show f host n)) c.show_of.ensures)
          ∙ (sym (piece_step (λ (s : SubRow). ranks_in_show f host (show_of s)) subs c.loop-sub.sub-index c.sub-item.result c.loop-sub.plan.items (slice_get_read subs (length subs) c.loop-sub.sub-index c.sub-item.result refl c.loop-sub-test.true c.sub-item.is)) ∙ c.loop-sub.invariant.items);
      few = c.offer_show.ensures.few;
      capacity = c.offer_show.ensures.capacity ∙ c.loop-sub.invariant.capacity;
    }

pub returns : goal.returns
returns c =
    let f = c.args.farm.now in
    let test = c.loop-sub-test.false in
    sym (all_offered (λ (s : SubRow). ranks_in_show f c.args.host (show_of s)) c.args.subs.now c.loop-sub.sub-index c.loop-sub.plan.items (omega (arith, test)) c.loop-sub.invariant.few) ∙ c.loop-sub.invariant.items
