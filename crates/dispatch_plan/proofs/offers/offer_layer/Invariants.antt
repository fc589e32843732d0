use Rattle.std.proofs.Common.{◌≡◌, ◌≤◌, ◌-◌, length}
use Rattle.std.specs.Vec.{vec_capacity}
use Rattle.farm_types.specs.declared.limits.TheConstants.{CANDIDATES_EACH}
use Rattle.farm_types.specs.Ranges.{range_numbers}
use Rattle.dispatch_law.specs.ByIndex.{ranks_at, ranks_in_layer}
use Rattle.dispatch_plan.specs.Offers.{offered}
use Rattle.dispatch_plan.proofs.offers.offer_layer.Given as goal

abbrev pub invariant-loop-jobs : goal.invariant-loop-jobs
invariant-loop-jobs l =
    record {
      items : offered l.plan.items (ranks_at l.farm l.host l.layer.job l.layer.place l.from (length (range_numbers l.layer.range) - l.from)) ≡ offered l.fn.plan.items (ranks_in_layer l.farm l.host l.layer);
      few : length l.plan.items ≤ CANDIDATES_EACH;
      capacity : vec_capacity l.plan ≡ vec_capacity l.fn.plan;
    }

abbrev pub decreases-loop-jobs : goal.decreases-loop-jobs
decreases-loop-jobs l = length (range_numbers l.layer.range) - l.from
