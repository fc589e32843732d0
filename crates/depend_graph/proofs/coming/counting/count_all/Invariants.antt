use Rattle.std.proofs.Common.{◌≡◌, map, length, take}
use Rattle.depend_graph.specs.Added.{count_for}
use Rattle.depend_graph.proofs.coming.counting.count_all.Given as goal

abbrev pub invariant-loop-place : goal.invariant-loop-place
invariant-loop-place l = record {
  counted : take l.place l.counts.items ≡ map (count_for l.done) (take l.place l.groups);
  long : length l.counts.items ≡ length l.groups;
}
