use Rattle.std.proofs.Common.{◌≡◌, ◌≤◌, ◌*◌, take}
use Rattle.std.specs.Vec.{vec_capacity}
use Rattle.farm_types.specs.declared.limits.TheConstants.{MOST_DEPENDS}
use Rattle.depend_graph.proofs.copying.copy_depends.Given as goal

abbrev pub invariant-loop-listed : goal.invariant-loop-listed
invariant-loop-listed l = record {
  items : l.copies.items ≡ take l.listed-index l.depends;
  capacity : 2 * MOST_DEPENDS ≤ vec_capacity l.copies;
}
