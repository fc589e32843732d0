-- The way along the edges of a slot, from the one added last to those before it, and back.
use Rattle.std.specs.Prelude.{ℕ, ◌≡◌, ◌==◌, ◌&&◌, ◌||◌, Bool, true, false, not, List, map, nat_lt, slice_get, Option, None, Some}
use Rattle.depend_edges.specs.Listed.{ListedLists}
use Rattle.depend_edges.specs.declared.links.Edge.{Edge}
use Rattle.depend_edges.specs.declared.links.EdgeAt.{EdgeAt}

-- the edges of each depend
abbrev pub edges_in : ListedLists → List Edge
edges_in d = d.edges

abbrev pub edge_lists : List ListedLists → List (List Edge)
edge_lists depends = map edges_in depends

-- the edge of the first place stands before that of the second, by their depends, then by themselves
abbrev pub is_before : ℕ → ℕ → ℕ → ℕ → Bool
is_before p i q j = nat_lt p q || (p == q && nat_lt i j)

-- the edge at the place is past on the way, once the way has come to an edge or to its end
abbrev pub is_past : Option EdgeAt → ℕ → ℕ → Bool
is_past None p i = true
is_past (Some at) p i = is_before at.depend at.edge p i

-- at the place of a depend's edge stands this one
pub record IsEdge (lists : List (List Edge)) (p i : ℕ) (e : Edge) : Type 0 where
  pub edges : List Edge
  pub listed : slice_get lists p ≡ Some edges
  pub there : slice_get edges i ≡ Some e

-- the edge that is named is one of the slot
pub record IsEdgeOf (lists : List (List Edge)) (slot : ℕ) (at : EdgeAt) : Type 0 where
  pub edge : Edge
  pub there : IsEdge lists at.depend at.edge edge
  pub slot_is : edge.slot ≡ slot

-- the last edge of the slot among those of a kind, or none
pub record IsLast (lists : List (List Edge)) (slot : ℕ) (wanted : ℕ → ℕ → Bool) (o : Option EdgeAt) : Type 0 where
  pub one : (at : EdgeAt) → o ≡ Some at → IsEdgeOf lists slot at
  pub wanted_one : (at : EdgeAt) → o ≡ Some at → wanted at.depend at.edge ≡ true
  pub last : (p i : ℕ) (e : Edge) → IsEdge lists p i e → e.slot ≡ slot → wanted p i ≡ true → is_past o p i ≡ false

abbrev pub is_any : ℕ → ℕ → Bool
is_any p i = true

abbrev pub is_ahead_of : ℕ → ℕ → ℕ → ℕ → Bool
is_ahead_of q j p i = is_before p i q j

abbrev pub place_at : ℕ → ℕ → EdgeAt
place_at p i = record { depend = p; edge = i }

-- the edge that is named is one of the slot and of a kind, and that place stands at it
pub record IsNextOf (lists : List (List Edge)) (slot : ℕ) (wanted : ℕ → ℕ → Bool) (p i : ℕ) (at : EdgeAt) : Type 0 where
  pub edge : Edge
  pub there : IsEdge lists at.depend at.edge edge
  pub slot_is : edge.slot ≡ slot
  pub wanted_is : wanted at.depend at.edge ≡ true
  pub next_is : edge.next ≡ Some (place_at p i)

-- where the place of an edge of the slot stands: at its slot where there is none, and else at the edge that is named
abbrev pub IsPrevOf : List (Option EdgeAt) → List (List Edge) → ℕ → (ℕ → ℕ → Bool) → ℕ → ℕ → Option EdgeAt → Type 0
IsPrevOf first lists slot wanted p i None = slice_get first slot ≡ Some (Some (place_at p i))
IsPrevOf first lists slot wanted p i (Some at) = IsNextOf lists slot wanted p i at

-- from each edge the way goes on to the last one of its slot before it
abbrev pub KeepsNext : List (List Edge) → Type 0
KeepsNext lists = (p i : ℕ) (e : Edge) → IsEdge lists p i e → IsLast lists e.slot (is_ahead_of p i) e.next

-- at each slot stands its last edge, at each edge the one of the same slot before it, and where that edge's place stands
pub record KeepsWays (first : List (Option EdgeAt)) (lists : List (List Edge)) : Type 0 where
  pub first_kept : (slot : ℕ) (o : Option EdgeAt) → slice_get first slot ≡ Some o → IsLast lists slot is_any o
  pub next_kept : KeepsNext lists
  pub prev_kept : (p i : ℕ) (e : Edge) → IsEdge lists p i e → IsPrevOf first lists e.slot is_any p i e.prev

-- ---- the ways along some of the edges

abbrev pub is_wanted_ahead : (ℕ → ℕ → Bool) → ℕ → ℕ → ℕ → ℕ → Bool
is_wanted_ahead wanted p i q j = wanted q j && is_before q j p i

-- so it is with the edges of a kind
pub record KeepsWaysOf (wanted : ℕ → ℕ → Bool) (first : List (Option EdgeAt)) (lists : List (List Edge)) : Type 0 where
  pub first_kept : (slot : ℕ) (o : Option EdgeAt) → slice_get first slot ≡ Some o → IsLast lists slot wanted o
  pub next_kept : (p i : ℕ) (e : Edge) → IsEdge lists p i e → wanted p i ≡ true → IsLast lists e.slot (is_wanted_ahead wanted p i) e.next
  pub prev_kept : (p i : ℕ) (e : Edge) → IsEdge lists p i e → wanted p i ≡ true → IsPrevOf first lists e.slot wanted p i e.prev

-- all edges but the first ones of one depend
abbrev pub is_outside : ℕ → ℕ → ℕ → ℕ → Bool
is_outside place count p i = not (p == place && nat_lt i count)
