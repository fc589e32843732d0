-- What contracts see of a listed depend.
use Rattle.depend_edges.specs.Listed.{ListedLists}
use Rattle.depend_edges.specs.declared.listed.Listed.TheInside.{Inside}

abbrev pub lists_in : Inside → ListedLists
lists_in a = record { depend = a.depend; groups = a.groups; counts = a.counts.items; edges = a.edges.items; unmet = a.unmet; gone = a.gone }
