-- A depend without the ways along its edges.
use Rattle.std.specs.Prelude.{ℕ, Bool, List, map, Option, None, Some}
use Rattle.farm_types.specs.declared.depend.Group.{Group}
use Rattle.farm_types.specs.Farm.{changed_at}
use Rattle.depend_edges.specs.Aims.{Aim}
use Rattle.depend_edges.specs.Listed.{ListedLists, aim_of}
use Rattle.depend_edges.specs.declared.links.Edge.{Edge}
use Rattle.depend_edges.specs.declared.links.EdgeAt.{EdgeAt}
use Rattle.depend_edges.specs.declared.listed.Count.{Count}

-- what no change of the ways changes of a depend
pub record Bare : Type 0 where
  pub depend : ℕ
  pub groups : List Group
  pub counts : List Count
  pub aims : List Aim
  pub unmet : ℕ
  pub gone : Bool

abbrev pub bare_of : ListedLists → Bare
bare_of d = record { depend = d.depend; groups = d.groups; counts = d.counts; aims = map aim_of d.edges; unmet = d.unmet; gone = d.gone }

-- ---- one edge whose way changes

abbrev pub with_next : Option EdgeAt → Edge → Edge
with_next o e = record e { next = o }

abbrev pub with_prev : Option EdgeAt → Edge → Edge
with_prev o e = record e { prev = o }

-- the edge at a place of the depend
abbrev pub edge_changed : ℕ → (Edge → Edge) → ListedLists → ListedLists
edge_changed i change d = record d { edges = changed_at d.edges i change }

-- the edge that is named, where one is
abbrev pub changed_edge : Option EdgeAt → (Edge → Edge) → List ListedLists → List ListedLists
changed_edge None change depends = depends
changed_edge (Some at) change depends = changed_at depends at.depend (edge_changed at.edge change)
