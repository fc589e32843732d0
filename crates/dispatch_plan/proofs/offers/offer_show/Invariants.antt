use Rattle.std.proofs.Common.{◌≡◌, ◌≤◌, drop, length}
use Rattle.std.specs.List.{flat_map}
use Rattle.std.specs.Vec.{vec_capacity}
use Rattle.farm_types.specs.declared.limits.TheConstants.{CANDIDATES_EACH}
use Rattle.dispatch_law.specs.ByIndex.{ranks_in_job}
use Rattle.dispatch_plan.specs.Offers.{offered}
use Rattle.dispatch_plan.proofs.offers.offer_show.Given as goal

abbrev pub invariant-loop-job : goal.invariant-loop-job
invariant-loop-job l =
    record {
      items : offered l.plan.items (flat_map (ranks_in_job l.farm l.host) (drop l.job-index l.jobs)) ≡ offered l.fn.plan.items (flat_map (ranks_in_job l.farm l.host) l.jobs);
      few : length l.plan.items ≤ CANDIDATES_EACH;
      capacity : vec_capacity l.plan ≡ vec_capacity l.fn.plan;
    }
