-- What the graph keeps true of its fields.
use Rattle.std.specs.Prelude.{ℕ, ◌≡◌, ◌≤◌, ◌*◌, List, [], true, map, filter, count_by, length, Some, slice_get}
use Rattle.std.specs.Vec.{vec_capacity}
use Rattle.farm_types.specs.declared.limits.TheConstants.{MOST_DEPENDS, MOST_GROUPS, SLOT_LIMIT}
use Rattle.farm_types.specs.Sums.{total_at}
use Rattle.depend_edges.specs.Listed.{AllListed, ListedLists, has_number, is_there}
use Rattle.depend_edges.specs.Ways.{KeepsWays, edge_lists}
use Rattle.depend_graph.specs.Graph.{GraphLists, Watch, groups_left, is_not_named, met_where, unmet_of}
use Rattle.depend_graph.specs.Watches.{AllCounted, watch_by}
use Rattle.depend_graph.specs.declared.graph.Graph.TheInside.{Inside}
use Rattle.depend_graph.specs.declared.tally.Tally.{Tally}

abbrev pub watches : List ListedLists → List Watch
watches depends = map watch_by depends

-- those that weren't forgotten
abbrev pub there_of : List ListedLists → List ListedLists
there_of depends = filter is_there depends

abbrev pub graph_of : Inside → GraphLists
graph_of a = record { done = a.done.items; depends = watches (there_of a.tally.depends.items) }

-- Of one that was forgotten no group is left. No two others have one number, and there are as many as there may be, with at most as many empty places.
pub record KeepsDepends (depends : List ListedLists) : Type 0 where
  pub listed : AllListed depends
  pub gone_empty : (p : ℕ) (d : ListedLists) → slice_get depends p ≡ Some d → d.gone ≡ true → d.groups ≡ []
  pub numbers_differ : (p q : ℕ) (d e : ListedLists) → slice_get depends p ≡ Some d → slice_get depends q ≡ Some e
      → is_there d ≡ true → is_there e ≡ true → d.depend ≡ e.depend → p ≡ q
  pub count_within : count_by is_there depends ≤ MOST_DEPENDS
  pub places_within : length depends ≤ 2 * MOST_DEPENDS

-- at each slot stands in how many unmet groups its frame waits, and the groups of the depends that aren't satisfied are counted
pub record KeepsSums (unmet : List ℕ) (left : ℕ) (depends : List ListedLists) : Type 0 where
  pub unmet_kept : (slot : ℕ) → total_at unmet slot ≡ unmet_of (watches depends) slot
  pub unmet_counted : length unmet ≡ SLOT_LIMIT
  pub left_kept : left ≡ groups_left (watches depends)
  pub left_within : left ≤ MOST_GROUPS

-- so it is with the depends, and there is room for as many as there may be
pub record KeepsTally (t : Tally) : Type 0 where
  pub depends : KeepsDepends t.depends.items
  pub sums : KeepsSums t.unmet.items t.left t.depends.items
  pub room : 2 * MOST_DEPENDS ≤ vec_capacity t.depends

pub record KeepsGraph (a : Inside) : Type 0 where
  pub tally : KeepsTally a.tally
  pub counts : AllCounted a.done.items a.tally.depends.items
  pub ways : KeepsWays a.first.items (edge_lists a.tally.depends.items)
  pub done_counted : length a.done.items ≡ SLOT_LIMIT
  pub first_counted : length a.first.items ≡ SLOT_LIMIT

-- the depend at a place is gone, which had that number
abbrev pub HasForgotten : List ListedLists → ℕ → List ListedLists → Type 0
HasForgotten olds place news =
    (depend : ℕ) (d : ListedLists) → slice_get olds place ≡ Some d → has_number depend d ≡ true
    → watches (there_of news) ≡ filter (is_not_named depend) (watches (there_of olds))

-- all groups of the depend at a place are met
abbrev pub HasMetAll : List ListedLists → ℕ → List ListedLists → Type 0
HasMetAll olds place news = (d : ListedLists) → slice_get olds place ≡ Some d → is_there d ≡ true → watches news ≡ map (met_where d.depend) (watches olds)
