use Rattle.std.proofs.Common.{◌≡◌, drop}
use Rattle.depend_graph.specs.Added.{held_in}
use Rattle.depend_graph.proofs.coming.counting.hold_all.Given as goal

abbrev pub invariant-loop-place : goal.invariant-loop-place
invariant-loop-place l = held_in l.unmet.items (drop l.place l.groups) (drop l.place l.counts) ≡ held_in l.fn.unmet.items l.groups l.counts
