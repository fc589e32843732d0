use Rattle.std.proofs.Common.{◌≡◌, ◌≤◌, take}
use Rattle.std.specs.List.{count_by}
use Rattle.depend_graph.specs.Added.{is_lacking}
use Rattle.depend_graph.proofs.coming.counting.lacking.Given as goal

abbrev pub invariant-loop-slot : goal.invariant-loop-slot
invariant-loop-slot l = record {
  counted : l.count ≡ count_by (is_lacking l.done) (take l.slot-index l.slots);
  within : l.count ≤ l.slot-index;
}
