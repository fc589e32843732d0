use Rattle.std.proofs.Common.{◌≡◌}
use Rattle.std.specs.Vec.Iter.{into_iter_items}
use Rattle.rqd_core.specs.Replies.{all_launched}
use Rattle.rqd_core.proofs.taking.launch_all.Given as goal

-- what is left makes of the lists so far what all make of the first ones
abbrev pub invariant-loop-launch : goal.invariant-loop-launch
invariant-loop-launch l = all_launched l.taking (into_iter_items l.launch-iterator) ≡ all_launched l.fn.taking l.fn.launches.items
