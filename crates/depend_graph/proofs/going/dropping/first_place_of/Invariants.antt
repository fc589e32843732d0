use Rattle.std.proofs.Common.{◌≡◌, take, false}
use Rattle.std.specs.List.{list_any}
use Rattle.depend_edges.specs.Listed.{has_number}
use Rattle.depend_graph.proofs.going.dropping.first_place_of.Given as goal

abbrev pub invariant-loop-place : goal.invariant-loop-place
invariant-loop-place l = list_any (has_number l.depend) (take l.place l.depends) ≡ false
