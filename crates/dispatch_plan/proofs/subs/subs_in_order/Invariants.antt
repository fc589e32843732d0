use Rattle.std.proofs.Common.{◌≡◌, ◌≤◌, ◌-◌}
use Rattle.farm_types.specs.declared.limits.TheConstants.{MOST_SHOWS}
use Rattle.dispatch_law.specs.ByIndex.{sorted_subs}
use Rattle.dispatch_plan.specs.Offers.{subs_from}
use Rattle.dispatch_plan.proofs.subs.subs_in_order.Given as goal

abbrev pub invariant-loop-show : goal.invariant-loop-show
invariant-loop-show l =
    record {
      within : l.show ≤ MOST_SHOWS;
      sorted : l.subs.items ≡ sorted_subs l.farm (subs_from l.farm l.allocation l.show (MOST_SHOWS - l.show));
    }

abbrev pub decreases-loop-show : goal.decreases-loop-show
decreases-loop-show l = l.show
