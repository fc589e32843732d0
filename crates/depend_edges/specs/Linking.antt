-- One edge goes to the front of its slot's way, or is taken off it.
use Rattle.std.specs.Prelude.{ℕ, ◌≡◌, List, Option, None, Some, slice_get, slice_set}
use Rattle.depend_edges.specs.Bare.{changed_edge, with_next, with_prev}
use Rattle.depend_edges.specs.Listed.{ListedLists}
use Rattle.depend_edges.specs.declared.links.Edge.{Edge}
use Rattle.depend_edges.specs.declared.links.EdgeAt.{EdgeAt}

-- the depends with the edge that is named before the one that was first
abbrev pub linked_in : EdgeAt → Option EdgeAt → List ListedLists → List ListedLists
linked_in at next depends = changed_edge (Some at) (with_next next) (changed_edge (Some at) (with_prev None) (changed_edge next (with_prev (Some at)) depends))

pub record IsLinked (at : EdgeAt) (slot : ℕ) (first firsts : List (Option EdgeAt)) (olds news : List ListedLists) : Type 0 where
  pub next : Option EdgeAt
  pub was_first : slice_get first slot ≡ Some next
  pub first_is : firsts ≡ slice_set first slot (Some at)
  pub depends_are : news ≡ linked_in at next olds

-- the depends without the edge on its slot's way
abbrev pub unlinked_in : Edge → List ListedLists → List ListedLists
unlinked_in e depends = changed_edge e.next (with_prev e.prev) (changed_edge e.prev (with_next e.next) depends)

-- where none is behind it on the way, the slot's first one is the next
abbrev pub first_without : ℕ → Option EdgeAt → Option EdgeAt → List (Option EdgeAt) → List (Option EdgeAt)
first_without slot None next first = slice_set first slot next
first_without slot (Some at) next first = first
