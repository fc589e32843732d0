-- What would become of the graph: counts that are laid over its own, and the slots of those who would be freed.
use Rattle.std.specs.Prelude.{ℕ, ◌≡◌, ◌≢◌, ◌==◌, ◌||◌, ◌+◌, ◌*◌, ◌-◌, Bool, true, false, List, [], ◌∷◌, ◌++◌, map, length, count_by, slice_get, Option, None, Some, if◌then◌else◌, nat_eq}
use Rattle.farm_types.specs.declared.depend.Group.{Group}
use Rattle.farm_types.specs.declared.depend.MetRow.{MetRow}
use Rattle.farm_types.specs.declared.limits.TheConstants.{SLOT_LIMIT}
use Rattle.farm_types.specs.Sums.{total_at}
use Rattle.std.specs.List.{AllByRecursion, IsDistinct, list_any}
use Rattle.depend_edges.specs.Counts.{becomes_due}
use Rattle.depend_edges.specs.Listed.{ListedLists, is_enough}
use Rattle.depend_edges.specs.declared.links.EdgeAt.{EdgeAt}
use Rattle.depend_edges.specs.declared.listed.Count.{Count}
use Rattle.depend_graph.specs.Flow.{Flow}
use Rattle.depend_graph.specs.Graph.{GraphLists, Watch, is_flagged, is_mark, opened_between, unmet_of, was_met, was_satisfied, with_all_done}
use Rattle.depend_graph.specs.Inside.{KeepsDepends, KeepsSums, watches}
use Rattle.depend_graph.specs.Kept.{still_of}
use Rattle.depend_graph.specs.Passing.{IsPassing}
use Rattle.depend_graph.specs.Watches.{AllCounted, mark_for}
use Rattle.depend_graph.specs.declared.trials.marks.Marks.{Marks}

-- ---- counts that are laid over others

-- the count that is laid over one, or that one
abbrev pub count_or : ℕ → Option ℕ → ℕ
count_or count None = count
count_or count (Some n) = n

abbrev pub nothing_laid : ℕ → Option ℕ
nothing_laid key = None

-- One fewer stands under the key, whose count is that one where none is laid over it.
pub record IsLowered (key count : ℕ) (old new : ℕ → Option ℕ) : Type 0 where
  pub here : new key ≡ Some (count_or count (old key) - 1)
  pub elsewhere : (other : ℕ) → other ≢ key → new other ≡ old other

-- the key of the group at a place of the depend at a place
abbrev pub key_of : ℕ → ℕ → ℕ
key_of place group = 4294967296 * place + group

-- ---- who is freed

-- the slot stands in the list
abbrev pub is_at : ℕ → ℕ → Bool
is_at slot n = n == slot

-- one target of the group fewer is undone, and those who wait in it are freed where it becomes met by that
pub record IsHit (key : ℕ) (g : Group) (c : Count) (old new : ℕ → Option ℕ) (freed news : List ℕ) : Type 0 where
  pub counts : IsLowered key c.undone old new
  pub freed_then : news ≡ (if becomes_due g c (count_or c.undone (old key)) then freed ++ g.waiters else freed)

-- those who wait in groups that aren't met
abbrev pub waiters_left : List Group → List Count → List ℕ
waiters_left [] counts = []
waiters_left (g ∷ gs) [] = []
waiters_left (g ∷ gs) (c ∷ cs) = (if c.met then [] else g.waiters) ++ waiters_left gs cs

-- one slot is freed, and is listed where it waited in one unmet group
pub record IsFreed (slot count : ℕ) (old new : ℕ → Option ℕ) (slots news : List ℕ) : Type 0 where
  pub counts : IsLowered slot count old new
  pub listed : news ≡ (if count_or count (old slot) == 1 then slots ++ slot ∷ [] else slots)

-- The slots of the frames that open: they waited in so many unmet groups, and now do in one fewer for each time that they are freed.
abbrev pub AreOpened : List ℕ → List ℕ → List ℕ → Type 0
AreOpened unmet freed slots =
    (olds news : List Watch) → ((slot : ℕ) → unmet_of olds slot ≡ total_at unmet slot)
    → ((slot : ℕ) → unmet_of news slot ≡ total_at unmet slot - count_by (is_at slot) freed)
    → slots ≡ opened_between olds news

-- ---- what is met

-- by the places of depends how many of their groups aren't met, where that isn't as in the graph; the marks of the groups that would be met; and the
-- numbers of the depends that would be satisfied
pub record MetLists : Type 0 where
  pub left : ℕ → Option ℕ
  pub met : List MetRow
  pub satisfied : List ℕ

abbrev pub nothing_met : MetLists
nothing_met = record { left = nothing_laid; met = []; satisfied = [] }

abbrev pub marks_told : MetLists → Marks
marks_told m = record { met = m.met; satisfied = m.satisfied }

-- a group of the depend at a place is met too
pub record IsMet (place : ℕ) (d : ListedLists) (g : Group) (old new : MetLists) : Type 0 where
  pub left : IsLowered place d.unmet old.left new.left
  pub met : new.met ≡ old.met ++ mark_for d.depend g ∷ []
  pub satisfied : new.satisfied ≡ (if count_or d.unmet (old.left place) == 1 then old.satisfied ++ d.depend ∷ [] else old.satisfied)

-- it is met, or nothing is
abbrev pub IsMetWhere : Bool → ℕ → ListedLists → Group → MetLists → MetLists → Type 0
IsMetWhere true place d g old new = IsMet place d g old new
IsMetWhere false place d g old new = new ≡ old

-- the lists tell what is met in the new depends
pub record Tells (olds : List ListedLists) (m : MetLists) (news : List ListedLists) : Type 0 where
  pub left : (p : ℕ) (d e : ListedLists) → slice_get olds p ≡ Some d → slice_get news p ≡ Some e → e.unmet ≡ count_or d.unmet (m.left p)
  pub met : (depend position : ℕ) → list_any (is_mark depend position) m.met ≡ was_met (watches olds) (watches news) depend position
  pub satisfied : (depend : ℕ) → list_any (λ n. n == depend) m.satisfied ≡ was_satisfied (watches olds) (watches news) depend

-- ---- the graph that it would be

-- a group's count is the one that is laid over the old, and it is met where it was or lacks no target
pub record IsLaid (over : Option ℕ) (g : Group) (old new : Count) : Type 0 where
  pub undone : new.undone ≡ count_or old.undone over
  pub met : new.met ≡ (old.met || is_enough g new.undone)

pub record Agrees (olds : List ListedLists) (unmet : List ℕ) (over : ℕ → Option ℕ) (freed : List ℕ) (news : List ListedLists) (unmet_then : List ℕ)
    : Type 0 where
  pub counts : (p k : ℕ) (d e : ListedLists) (g : Group) (old new : Count) → slice_get olds p ≡ Some d → slice_get news p ≡ Some e
      → slice_get d.groups k ≡ Some g → slice_get d.counts k ≡ Some old → slice_get e.counts k ≡ Some new → IsLaid (over (key_of p k)) g old new
  pub unmet_read : (slot : ℕ) → total_at unmet_then slot ≡ total_at unmet slot - count_by (is_at slot) freed

-- the counts and the freed are those of that graph
pub record IsTried (olds : List ListedLists) (unmet : List ℕ) (over : ℕ → Option ℕ) (freed : List ℕ) (m : MetLists) (g : GraphLists) : Type 0 where
  pub news : List ListedLists
  pub unmet_then : List ℕ
  pub left_then : ℕ
  pub depends_are : watches news ≡ g.depends
  pub structure : map still_of news ≡ map still_of olds
  pub depends : KeepsDepends news
  pub sums : KeepsSums unmet_then left_then news
  pub counts : AllCounted g.done news
  pub done_counted : length g.done ≡ SLOT_LIMIT
  pub agrees : Agrees olds unmet over freed news unmet_then
  pub tells : Tells olds m news

-- on the way along the edges of a slot that would be done, where these are the depends at the way's beginning
pub record IsFollowing (olds : List ListedLists) (unmet : List ℕ) (done : List Bool) (slot : ℕ) (news : List ListedLists) (at : Option EdgeAt)
    (over : ℕ → Option ℕ) (freed : List ℕ) (m : MetLists) : Type 0 where
  pub flow : Flow
  pub passing : IsPassing done slot news at flow
  pub agrees : Agrees olds unmet over freed flow.depends flow.unmet
  pub tells : Tells olds m flow.depends

-- the graph that it would be once the first of these frames are done, which is on its way to that in which all are
pub record IsUnderWay (olds : List ListedLists) (unmet : List ℕ) (over : ℕ → Option ℕ) (freed : List ℕ) (m : MetLists) (slots : List ℕ) (last : GraphLists)
    : Type 0 where
  pub graph : GraphLists
  pub tried : IsTried olds unmet over freed m graph
  pub leads : with_all_done graph slots ≡ last
  pub undone : AllByRecursion (λ slot. is_flagged graph.done slot ≡ false) slots
  pub differ : IsDistinct nat_eq slots
