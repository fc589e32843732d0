use Rattle.std.proofs.Common.{◌≡◌, length, map}
use Rattle.std.specs.Vec.{vec_capacity}
use Rattle.farm_types.specs.declared.limits.TheConstants.{SLOT_LIMIT}
use Rattle.depend_edges.specs.Bare.{bare_of}
use Rattle.depend_edges.specs.Ways.{KeepsWaysOf, edge_lists, is_ahead_of}
use Rattle.depend_edges.proofs.linking.link.Given as goal

abbrev pub invariant-loop-edge : goal.invariant-loop-edge
invariant-loop-edge l = record {
  bare : map bare_of l.depends.items ≡ map bare_of l.fn.depends.items;
  first : length l.first.items ≡ SLOT_LIMIT;
  ways : KeepsWaysOf (is_ahead_of l.place l.edge) l.first.items (edge_lists l.depends.items);
  capacity : vec_capacity l.depends ≡ vec_capacity l.fn.depends;
}
