use Rattle.std.proofs.Common.{◌≡◌, ◌≤◌, drop, length}
use Rattle.std.specs.List.{flat_map}
use Rattle.std.specs.Vec.{vec_capacity}
use Rattle.farm_types.specs.declared.limits.TheConstants.{CANDIDATES_EACH}
use Rattle.dispatch_law.specs.ByIndex.{ranks_in_layer}
use Rattle.dispatch_plan.specs.Offers.{offered}
use Rattle.dispatch_plan.proofs.offers.offer_job.Given as goal

abbrev pub invariant-loop-layer : goal.invariant-loop-layer
invariant-loop-layer l =
    record {
      items : offered l.plan.items (flat_map (ranks_in_layer l.farm l.host) (drop l.layer-index l.layers)) ≡ offered l.fn.plan.items (flat_map (ranks_in_layer l.farm l.host) l.layers);
      few : length l.plan.items ≤ CANDIDATES_EACH;
      capacity : vec_capacity l.plan ≡ vec_capacity l.fn.plan;
    }
