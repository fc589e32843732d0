-- Depends that are put back as they were kept.
use Rattle.std.specs.Prelude.{ℕ, ◌≡◌, ◌+◌, ◌<◌, ◌≤◌, Bool, List, [], ◌∷◌, ◌++◌, length, All}
use Rattle.farm_types.specs.declared.depend.DependRow.{DependRow}
use Rattle.farm_types.specs.declared.depend.Group.{Group}
use Rattle.farm_types.specs.declared.limits.TheConstants.{LAST_DEPEND, MOST_DEPENDS, MOST_GROUPS}
use Rattle.depend_graph.specs.Graph.{IsGroup, groups_left, is_satisfied}
use Rattle.depend_graph.specs.Marked.{marked_watch, with_marked}
use Rattle.depend_book.specs.Book.{DependLists}

-- the next depend's number is that one
abbrev pub skipped : DependLists → ℕ → DependLists
skipped b next = record b { next = next }

-- one row more, and its groups, some of which are marked
abbrev pub with_restored : DependLists → DependRow → List Group → List Bool → DependLists
with_restored b d groups marks =
    record {
      rows = b.rows ++ d ∷ [];
      graph = with_marked b.graph d.depend groups marks;
      next = b.next + 1;
    }

-- the row has the next number, there is room for it, and for its groups, and it says whether all of them are met
pub record CanRestore (b : DependLists) (d : DependRow) (groups : List Group) (marks : List Bool) : Type 0 where
  pub number : d.depend ≡ b.next
  pub number_left : b.next ≤ LAST_DEPEND
  pub room : length b.rows < MOST_DEPENDS
  pub groups_within : groups_left b.graph.depends + length groups ≤ MOST_GROUPS
  pub each : All IsGroup groups
  pub satisfied : is_satisfied (marked_watch b.graph.done d.depend groups marks) ≡ d.met_all
