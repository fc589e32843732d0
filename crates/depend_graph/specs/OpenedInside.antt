-- What contracts see of what a change opened.
use Rattle.std.specs.Prelude.{◌≤◌}
use Rattle.std.specs.Vec.{vec_capacity}
use Rattle.farm_types.specs.declared.limits.TheConstants.{MOST_DEPENDS, SLOT_LIMIT}
use Rattle.depend_graph.specs.Graph.{OpenedLists}
use Rattle.depend_graph.specs.declared.progress.opened.Opened.TheInside.{Inside}

abbrev pub opened_in : Inside → OpenedLists
opened_in a = record { slots = a.slots.items; satisfied = a.satisfied.items }

-- there is room for all slots and all depends
pub record HasRoom (a : Inside) : Type 0 where
  pub slots : SLOT_LIMIT ≤ vec_capacity a.slots
  pub satisfied : MOST_DEPENDS ≤ vec_capacity a.satisfied
