use Rattle.std.proofs.Common.{◌≡◌, ◌++◌, drop, length, take}
use Rattle.depend_graph.specs.Marked.{marked_counts}
use Rattle.depend_graph.proofs.coming.marking.mark_all.Given as goal

abbrev pub invariant-loop-place : goal.invariant-loop-place
invariant-loop-place l = record {
  counts : take l.place l.counts.items ++ marked_counts (drop l.place l.counts.items) (drop l.place l.marks) ≡ marked_counts l.fn.counts.items l.marks;
  long : length l.counts.items ≡ length l.fn.counts.items;
}
