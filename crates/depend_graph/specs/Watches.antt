-- The watch that a listed depend stands for, and counts that are right.
use Rattle.std.specs.Prelude.{ℕ, ◌≡◌, ◌==◌, ◌&&◌, Bool, true, not, List, [], ◌∷◌, count_by, slice_get, Some}
use Rattle.farm_types.specs.declared.depend.Group.{Group}
use Rattle.farm_types.specs.declared.depend.MetRow.{MetRow}
use Rattle.depend_edges.specs.Listed.{ListedLists, OfGroup, is_enough}
use Rattle.depend_edges.specs.declared.links.Edge.{Edge}
use Rattle.depend_edges.specs.declared.listed.Count.{Count}
use Rattle.depend_graph.specs.Graph.{Watch, Watched, is_flagged}

abbrev pub watched_by : Group → Count → Watched
watched_by g c = record { group = g; met = c.met }

-- each group with its count's mark
abbrev pub watched_with : List Group → List Count → List Watched
watched_with [] counts = []
watched_with (g ∷ gs) [] = []
watched_with (g ∷ gs) (c ∷ cs) = watched_by g c ∷ watched_with gs cs

abbrev pub watch_by : ListedLists → Watch
watch_by d = record { depend = d.depend; groups = watched_with d.groups d.counts }

-- the mark of a group of the depend of that number, once it is met
abbrev pub mark_for : ℕ → Group → MetRow
mark_for depend g = record { depend = depend; position = g.position }

-- ---- counts

-- the edge is one of the group's, to a frame that isn't done
abbrev pub is_undone : List Bool → ℕ → Edge → Bool
is_undone done group e = e.group == group && not (is_flagged done e.slot)

-- the counts are those of the targets that aren't done, and a group that lacks none is met
pub record KeepsCounts (done : List Bool) (d : ListedLists) : Type 0 where
  pub undone_kept : (k : ℕ) (c : Count) → slice_get d.counts k ≡ Some c → c.undone ≡ count_by (is_undone done k) d.edges
  pub met_kept : (k : ℕ) → OfGroup d k (λ g c. is_enough g c.undone ≡ true → c.met ≡ true)

abbrev pub AllCounted : List Bool → List ListedLists → Type 0
AllCounted done depends = (p : ℕ) (d : ListedLists) → slice_get depends p ≡ Some d → KeepsCounts done d

-- whatever the flags are, the counts stay those of the targets
abbrev pub StayCounted : List ListedLists → List ListedLists → Type 0
StayCounted olds news = (done : List Bool) → AllCounted done olds → AllCounted done news
