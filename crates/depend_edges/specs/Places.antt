-- What stands at a place of the depends.
use Rattle.std.specs.Prelude.{ℕ, ◌≡◌, Some, List, slice_get}
use Rattle.farm_types.specs.declared.depend.Group.{Group}
use Rattle.depend_edges.specs.Listed.{ListedLists, OfGroup}
use Rattle.depend_edges.specs.declared.links.Edge.{Edge}
use Rattle.depend_edges.specs.declared.links.EdgeAt.{EdgeAt}
use Rattle.depend_edges.specs.declared.listed.Count.{Count}

-- what stands at the place of a group
pub record IsGroupAt (depends : List ListedLists) (place group : ℕ) : Type 0 where
  pub listed : ListedLists
  pub one : Group
  pub count : Count
  pub listed_there : slice_get depends place ≡ Some listed
  pub group_there : slice_get listed.groups group ≡ Some one
  pub count_there : slice_get listed.counts group ≡ Some count

-- the edge that is named, and its group
pub record IsEdgeAt (depends : List ListedLists) (at : EdgeAt) : Type 0 where
  pub edge : Edge
  pub place : IsGroupAt depends at.depend edge.group
  pub edge_there : slice_get place.listed.edges at.edge ≡ Some edge

-- what holds of the depend at a place
abbrev pub AtDepend : List ListedLists → ℕ → (ListedLists → Type 0) → Type 0
AtDepend depends place P = (d : ListedLists) → slice_get depends place ≡ Some d → P d

-- of a group of it, and of the group's count
abbrev pub AtGroup : List ListedLists → ℕ → ℕ → (ListedLists → Group → Count → Type 0) → Type 0
AtGroup depends place group P = AtDepend depends place (λ d. OfGroup d group (P d))

-- of the edge that is named
abbrev pub AtEdge : List ListedLists → EdgeAt → (ListedLists → Edge → Type 0) → Type 0
AtEdge depends at P = (d : ListedLists) (e : Edge) → slice_get depends at.depend ≡ Some d → slice_get d.edges at.edge ≡ Some e → P d e

-- and of its group
abbrev pub AtTarget : List ListedLists → EdgeAt → (ListedLists → Edge → Group → Count → Type 0) → Type 0
AtTarget depends at P = AtEdge depends at (λ d e. OfGroup d e.group (P d e))
