-- What contracts see of what is reserved.
use Rattle.std.specs.Prelude.{◌<◌, ◌^◌, length, map}
use Rattle.depend_edges.specs.Listed.{aim_of}
use Rattle.depend_graph.specs.Spare.{SpareLists}
use Rattle.depend_graph.specs.declared.coming.spare.GraphSpare.TheInside.{Inside}

abbrev pub spare_in : Inside → SpareLists
spare_in a = record { groups = length a.counts.items; aims = map aim_of a.edges.items }

-- 32 bits count the edges
abbrev pub IsSpare : Inside → Type 0
IsSpare a = length a.edges.items < 2 ^ 32
