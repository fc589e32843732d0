-- The graph: the groups of depends, which of them are met, and how many unmet ones a frame waits in.
use Rattle.std.specs.Prelude.{ℕ, zero, suc, ◌≡◌, ◌==◌, ◌&&◌, ◌+◌, ◌<◌, ◌≤◌, Bool, true, false, not, List, [], ◌∷◌, ◌++◌, map, filter, length, replicate, count_by, sum_by, slice_get, slice_set, nat_lt, All, if◌then◌else◌}
use Rattle.std.specs.List.{list_all, list_any}
use Rattle.farm_types.specs.declared.depend.Group.{Group}
use Rattle.farm_types.specs.declared.depend.MetRow.{MetRow}
use Rattle.farm_types.specs.Depends.{are_done, waits_in}
use Rattle.farm_types.specs.Farm.{for_some}
use Rattle.farm_types.specs.declared.limits.TheConstants.{MOST_DEPENDS, MOST_GROUPS, SLOT_LIMIT}
pub use Rattle.depend_edges.specs.Groups.{IsGroup, is_below}
use Rattle.depend_graph.specs.declared.trials.marks.Marks.{Marks}

-- a group, and whether it is met
pub record Watched : Type 0 where
  pub group : Group
  pub met : Bool

-- a depend, by its number, with its groups
pub record Watch : Type 0 where
  pub depend : ℕ
  pub groups : List Watched

-- for each slot whether its frame is done, and the depends in the order in which they came
pub record GraphLists : Type 0 where
  pub done : List Bool
  pub depends : List Watch

-- no frame is done, and there are no depends
abbrev pub no_graph : GraphLists
no_graph = record { done = replicate SLOT_LIMIT false; depends = [] }

-- the frame in the slot is done
abbrev pub is_flagged : List Bool → ℕ → Bool
is_flagged done slot = for_some (slice_get done slot) (λ flag. flag)

-- ---- what is unmet

-- the group isn't met, and the frame in the slot waits in it
abbrev pub holds : ℕ → Watched → Bool
holds slot w = not w.met && waits_in slot w.group

-- how many unmet groups the frame in the slot waits in
abbrev pub unmet_in : ℕ → Watch → ℕ
unmet_in slot d = count_by (holds slot) d.groups

abbrev pub unmet_of : List Watch → ℕ → ℕ
unmet_of depends slot = sum_by (unmet_in slot) depends

abbrev pub is_met : Watched → Bool
is_met w = w.met

-- all groups of the depend are met
abbrev pub is_satisfied : Watch → Bool
is_satisfied d = list_all is_met d.groups

-- how many groups the depends have together that aren't satisfied
abbrev pub groups_left : List Watch → ℕ
groups_left depends = sum_by (λ (d : Watch). if is_satisfied d then 0 else length d.groups) depends

-- ---- changes

abbrev pub watched : List Bool → Group → Watched
watched done g = record { group = g; met = are_done (is_flagged done) g }

-- one depend more: a group is met at once where its targets are done
abbrev pub watch_of : List Bool → ℕ → List Group → Watch
watch_of done depend groups = record { depend = depend; groups = map (watched done) groups }

abbrev pub with_depend : GraphLists → ℕ → List Group → GraphLists
with_depend g depend groups = record g { depends = g.depends ++ watch_of g.done depend groups ∷ [] }

-- a group with the slot among its targets is met where they are done
abbrev pub is_completed : List Bool → ℕ → Group → Bool
is_completed done slot g = list_any (λ t. t == slot) g.targets && are_done (is_flagged done) g

abbrev pub completed : List Bool → ℕ → Watched → Watched
completed done slot w = if is_completed done slot w.group then record w { met = true } else w

abbrev pub completed_in : List Bool → ℕ → Watch → Watch
completed_in done slot d = record d { groups = map (completed done slot) d.groups }

-- The frame in the slot is done, or isn't any more. What is met stays met.
abbrev pub with_done : GraphLists → ℕ → Bool → GraphLists
with_done g slot true = record { done = slice_set g.done slot true; depends = map (completed_in (slice_set g.done slot true) slot) g.depends }
with_done g slot false = record g { done = slice_set g.done slot false }

-- frames are done, one after the other
abbrev pub with_all_done : GraphLists → List ℕ → GraphLists
with_all_done g [] = g
with_all_done g (slot ∷ slots) = with_all_done (with_done g slot true) slots

abbrev pub met_group : Watched → Watched
met_group w = record w { met = true }

-- all groups of the depend are met
abbrev pub met_where : ℕ → Watch → Watch
met_where depend d = if d.depend == depend then record d { groups = map met_group d.groups } else d

abbrev pub without_depend : GraphLists → ℕ → GraphLists
without_depend g depend = record g { depends = map (met_where depend) g.depends }

abbrev pub is_not_named : ℕ → Watch → Bool
is_not_named depend d = not (d.depend == depend)

-- the depend goes, with its groups
abbrev pub forgotten : GraphLists → ℕ → GraphLists
forgotten g depend = record g { depends = filter (is_not_named depend) g.depends }

-- ---- what opens

abbrev pub numbers_from : ℕ → ℕ → List ℕ
numbers_from zero from = []
numbers_from (suc count) from = from ∷ numbers_from count (from + 1)

-- the frame waited in unmet groups, and waits in none now
abbrev pub has_opened : List Watch → List Watch → ℕ → Bool
has_opened olds news slot = nat_lt 0 (unmet_of olds slot) && unmet_of news slot == 0

-- the slots of the frames whose number of unmet groups became 0, in order
unfoldable pub opened_between : List Watch → List Watch → List ℕ
opened_between olds news = filter (has_opened olds news) (numbers_from SLOT_LIMIT 0)

abbrev pub became_satisfied : ℕ → Watch → Watch → Bool
became_satisfied depend old new = old.depend == depend && (not (is_satisfied old) && is_satisfied new)

-- a depend of the number wasn't satisfied, and is now
abbrev pub was_satisfied : List Watch → List Watch → ℕ → Bool
was_satisfied [] news depend = false
was_satisfied (old ∷ olds) [] depend = false
was_satisfied (old ∷ olds) (new ∷ news) depend = if became_satisfied depend old new then true else was_satisfied olds news depend

-- what a change opened: slots in order, and the numbers of the depends that became satisfied
pub record OpenedLists : Type 0 where
  pub slots : List ℕ
  pub satisfied : List ℕ

abbrev pub nothing_opened : OpenedLists
nothing_opened = record { slots = []; satisfied = [] }

pub record HasOpened (olds news : List Watch) (opened : OpenedLists) : Type 0 where
  pub slots : opened.slots ≡ opened_between olds news
  pub satisfied : (depend : ℕ) → list_any (λ n. n == depend) opened.satisfied ≡ was_satisfied olds news depend

-- ---- what becomes met

-- the group at that position becomes met
abbrev pub becomes_met : ℕ → Watched → Watched → Bool
becomes_met position old new = old.group.position == position && (not old.met && new.met)

abbrev pub met_between : ℕ → List Watched → List Watched → Bool
met_between position [] news = false
met_between position (old ∷ olds) [] = false
met_between position (old ∷ olds) (new ∷ news) = if becomes_met position old new then true else met_between position olds news

-- a group of the depend of that number, at that position, wasn't met, and is now
abbrev pub was_met : List Watch → List Watch → ℕ → ℕ → Bool
was_met [] news depend position = false
was_met (old ∷ olds) [] depend position = false
was_met (old ∷ olds) (new ∷ news) depend position =
    if old.depend == depend && met_between position old.groups new.groups then true else was_met olds news depend position

abbrev pub is_mark : ℕ → ℕ → MetRow → Bool
is_mark depend position m = m.depend == depend && m.position == position

abbrev pub no_marks : Marks
no_marks = record { met = []; satisfied = [] }

-- exactly the groups that became met, and exactly the depends that became satisfied
pub record HasMet (olds news : List Watch) (marks : Marks) : Type 0 where
  pub met : (depend position : ℕ) → list_any (is_mark depend position) marks.met ≡ was_met olds news depend position
  pub satisfied : (depend : ℕ) → list_any (λ n. n == depend) marks.satisfied ≡ was_satisfied olds news depend

-- ---- what is read

-- the groups of the depend of that number
abbrev pub groups_at : List Watch → ℕ → List Watched
groups_at [] depend = []
groups_at (w ∷ ws) depend = if w.depend == depend then w.groups else groups_at ws depend

-- the mark of a group once it is met
abbrev pub group_mark : ℕ → Watched → MetRow
group_mark depend w = record { depend = depend; position = w.group.position }

-- ---- conditions

-- the depend isn't there, one more fits, and so do its groups
pub record CanAdd (g : GraphLists) (depend : ℕ) (groups : List Group) : Type 0 where
  pub new : list_any (λ (d : Watch). d.depend == depend) g.depends ≡ false
  pub room : length g.depends < MOST_DEPENDS
  pub groups_within : groups_left g.depends + length groups ≤ MOST_GROUPS
  pub each : All IsGroup groups

abbrev pub has_depend : GraphLists → ℕ → Bool
has_depend g depend = list_any (λ (d : Watch). d.depend == depend) g.depends
