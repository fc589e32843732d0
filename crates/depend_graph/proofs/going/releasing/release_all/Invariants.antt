use Rattle.std.proofs.Common.{◌≡◌, drop}
use Rattle.depend_graph.specs.Added.{released_in}
use Rattle.depend_graph.proofs.going.releasing.release_all.Given as goal

abbrev pub invariant-loop-place : goal.invariant-loop-place
invariant-loop-place l = released_in l.unmet.items (drop l.place l.groups) (drop l.place l.counts) ≡ released_in l.fn.unmet.items l.groups l.counts
