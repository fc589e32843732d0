use Rattle.std.proofs.Common.{◌≡◌, ◌≤◌, drop, length}
use Rattle.std.specs.List.{flat_map}
use Rattle.std.specs.Vec.{vec_capacity}
use Rattle.farm_types.specs.declared.rows.SubRow.{SubRow}
use Rattle.farm_types.specs.declared.limits.TheConstants.{CANDIDATES_EACH}
use Rattle.dispatch_law.specs.ByIndex.{ranks_in_show, show_of}
use Rattle.dispatch_plan.specs.Offers.{offered}
use Rattle.dispatch_plan.proofs.planning.offer_subs.Given as goal

abbrev pub invariant-loop-sub : goal.invariant-loop-sub
invariant-loop-sub l =
    record {
      items : offered l.plan.items (flat_map (λ (s : SubRow). ranks_in_show l.farm l.host (show_of s)) (drop l.sub-index l.subs)) ≡ offered l.fn.plan.items (flat_map (λ (s : SubRow). ranks_in_show l.farm l.host (show_of s)) l.subs);
      few : length l.plan.items ≤ CANDIDATES_EACH;
      capacity : vec_capacity l.plan ≡ vec_capacity l.fn.plan;
    }
