-- What is true on the way along a slot's edges, while some of them are past.
use Rattle.std.specs.Prelude.{ℕ, ◌≡◌, ◌≢◌, ◌<◌, ◌==◌, ◌&&◌, ◌+◌, Bool, true, false, not, List, [], ◌∷◌, map, slice_get, slice_set, Option, Some, if◌then◌else◌}
use Rattle.farm_types.specs.declared.depend.Group.{Group}
use Rattle.depend_edges.specs.Listed.{AllListed, ListedLists, is_enough}
use Rattle.depend_edges.specs.Ways.{IsEdgeOf, edge_lists, is_past}
use Rattle.depend_edges.specs.declared.links.Edge.{Edge}
use Rattle.depend_edges.specs.declared.links.EdgeAt.{EdgeAt}
use Rattle.depend_edges.specs.declared.listed.Count.{Count}
use Rattle.depend_graph.specs.Flow.{Flow}
use Rattle.depend_graph.specs.Graph.{is_completed, is_flagged}
use Rattle.depend_graph.specs.Inside.{watches}
use Rattle.depend_graph.specs.Kept.{KeepsFlow, still_of}
use Rattle.depend_graph.specs.Watches.{StayCounted}

-- The edge is one of the group's, and counts as undone: an edge of the slot by whether it is past, each other by its flag.
abbrev pub is_pending : (Bool → Bool) → List Bool → ℕ → Option EdgeAt → ℕ → ℕ → ℕ → Edge → Bool
is_pending turned done slot at group p i e = e.group == group && (if e.slot == slot then turned (is_past at p i) else not (is_flagged done e.slot))

-- how many pass a test of their place and themselves, where places are counted from one on
abbrev pub count_from : (ℕ → Edge → Bool) → ℕ → List Edge → ℕ
count_from test i [] = 0
count_from test i (e ∷ es) = (if test i e then 1 else 0) + count_from test (i + 1) es

-- the counts are those of the edges that count as undone
abbrev pub CountsPending : (Bool → Bool) → List Bool → ℕ → Option EdgeAt → List ListedLists → Type 0
CountsPending turned done slot at depends =
    (p k : ℕ) (d : ListedLists) (c : Count) → slice_get depends p ≡ Some d → slice_get d.counts k ≡ Some c
    → c.undone ≡ count_from (is_pending turned done slot at k p) 0 d.edges

-- each group that lacks none is met
abbrev pub MeetsAll : List ListedLists → Type 0
MeetsAll depends =
    (p k : ℕ) (d : ListedLists) (g : Group) (c : Count) → slice_get depends p ≡ Some d → slice_get d.groups k ≡ Some g → slice_get d.counts k ≡ Some c
    → is_enough g c.undone ≡ true → c.met ≡ true

-- a group's mark is the old one, or it is met since its targets are done
pub record IsMarked (done : List Bool) (slot : ℕ) (g : Group) (old new : Count) : Type 0 where
  pub stays : old.met ≡ true → new.met ≡ true
  pub cause : old.met ≡ false → new.met ≡ true → is_completed done slot g ≡ true

abbrev pub OnlyCompletes : List Bool → ℕ → List ListedLists → List ListedLists → Type 0
OnlyCompletes done slot olds news =
    (p k : ℕ) (d e : ListedLists) (g : Group) (old new : Count) → slice_get olds p ≡ Some d → slice_get news p ≡ Some e
    → slice_get e.groups k ≡ Some g → slice_get d.counts k ≡ Some old → slice_get e.counts k ≡ Some new → IsMarked done slot g old new

-- the slot is done, and so far as its edges are past, the counts and marks tell so
pub record IsPassing (done : List Bool) (slot : ℕ) (olds : List ListedLists) (at : Option EdgeAt) (f : Flow) : Type 0 where
  pub flow : KeepsFlow olds f
  pub counts : CountsPending not done slot at f.depends
  pub meets : MeetsAll f.depends
  pub marks : OnlyCompletes (slice_set done slot true) slot olds f.depends
  pub on_way : (a : EdgeAt) → at ≡ Some a → IsEdgeOf (edge_lists olds) slot a

abbrev pub same : Bool → Bool
same b = b

-- the slot isn't done any more, and so far as its edges are past, the counts tell so
pub record IsReopening (done : List Bool) (slot : ℕ) (olds : List ListedLists) (at : Option EdgeAt) (news : List ListedLists) : Type 0 where
  pub structure : map still_of news ≡ map still_of olds
  pub watches_same : watches news ≡ watches olds
  pub listed : AllListed news
  pub counts : CountsPending same done slot at news
  pub meets : MeetsAll news
  pub on_way : (a : EdgeAt) → at ≡ Some a → IsEdgeOf (edge_lists olds) slot a

-- the first groups of the depend at a place are met, and all else is as before
pub record IsDropping (olds : List ListedLists) (place count : ℕ) (f : Flow) : Type 0 where
  pub flow : KeepsFlow olds f
  pub elsewhere : (p : ℕ) → p ≢ place → slice_get f.depends p ≡ slice_get olds p
  pub counts : StayCounted olds f.depends
  pub all_met : (k : ℕ) (d : ListedLists) (c : Count) → slice_get f.depends place ≡ Some d → slice_get d.counts k ≡ Some c → k < count → c.met ≡ true
