use Rattle.std.proofs.Common.{◌≡◌, ◌≤◌, take}
use Rattle.std.specs.List.{count_by}
use Rattle.depend_edges.specs.Listed.{is_unmet}
use Rattle.depend_graph.proofs.coming.counting.unmet_among.Given as goal

abbrev pub invariant-loop-one : goal.invariant-loop-one
invariant-loop-one l = record {
  counted : l.count ≡ count_by is_unmet (take l.one-index l.counts);
  within : l.count ≤ l.one-index;
}
