use Rattle.std.proofs.Common.{◌≡◌, ◌+◌, drop}
use Rattle.std.specs.List.{prefix_len}
use Rattle.dispatch_plan.proofs.SubList.{comes_after}
use Rattle.dispatch_plan.proofs.subs.place_of.Given as goal

abbrev pub invariant-loop-place : goal.invariant-loop-place
invariant-loop-place l = l.place + prefix_len (comes_after l.farm l.sub) (drop l.place l.subs) ≡ prefix_len (comes_after l.farm l.sub) l.subs
