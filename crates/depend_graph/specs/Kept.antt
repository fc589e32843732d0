-- What stays true while groups are met.
use Rattle.std.specs.Prelude.{ℕ, ◌≡◌, ◌≤◌, ◌+◌, ◌==◌, Bool, true, List, map, length, count_by, nat_lt, slice_get, Some, if◌then◌else◌}
use Rattle.std.specs.List.{list_any}
use Rattle.farm_types.specs.declared.depend.Group.{Group}
use Rattle.farm_types.specs.declared.limits.TheConstants.{MOST_DEPENDS, SLOT_LIMIT}
use Rattle.depend_edges.specs.Listed.{AllListed, ListedLists}
use Rattle.depend_edges.specs.declared.links.Edge.{Edge}
use Rattle.depend_graph.specs.Flow.{Flow, is_positive}
use Rattle.depend_graph.specs.Graph.{has_opened, is_satisfied, unmet_of, was_satisfied}
use Rattle.depend_graph.specs.Inside.{KeepsSums, watches}
use Rattle.depend_graph.specs.Watches.{watch_by}

-- what no change of counts changes of a depend
pub record Still : Type 0 where
  pub depend : ℕ
  pub groups : List Group
  pub edges : List Edge
  pub gone : Bool

abbrev pub still_of : ListedLists → Still
still_of d = record { depend = d.depend; groups = d.groups; edges = d.edges; gone = d.gone }

-- some group of it is unmet
abbrev pub is_left : ListedLists → Bool
is_left d = nat_lt 0 d.unmet

-- The depends are the old ones but for what is met, which only grows. What is kept by slot, and what is listed as opened, fits them.
pub record KeepsFlow (olds : List ListedLists) (f : Flow) : Type 0 where
  pub structure : map still_of f.depends ≡ map still_of olds
  pub listed : AllListed f.depends
  pub sums : KeepsSums f.unmet f.left f.depends
  pub fewer : (slot : ℕ) → unmet_of (watches f.depends) slot ≤ unmet_of (watches olds) slot
  pub stays_satisfied : (p : ℕ) (d e : ListedLists) → slice_get olds p ≡ Some d → slice_get f.depends p ≡ Some e → is_satisfied (watch_by d) ≡ true
      → is_satisfied (watch_by e) ≡ true
  pub slots : (slot : ℕ) → count_by (λ n. n == slot) f.opened.slots ≡ (if has_opened (watches olds) (watches f.depends) slot then 1 else 0)
  pub slots_room : length f.opened.slots + count_by is_positive f.unmet ≤ SLOT_LIMIT
  pub satisfied : (depend : ℕ) → list_any (λ n. n == depend) f.opened.satisfied ≡ was_satisfied (watches olds) (watches f.depends) depend
  pub satisfied_room : length f.opened.satisfied + count_by is_left f.depends ≤ MOST_DEPENDS
