-- The book of depends: their rows, and the graph of their groups.
use Rattle.std.specs.Prelude.{ℕ, ◌≡◌, ◌==◌, ◌&&◌, ◌+◌, ◌<◌, ◌≤◌, Bool, true, not, List, [], ◌∷◌, ◌++◌, map, filter, find, length, nat_lt, Option}
use Rattle.std.specs.Prelude.{option_map, All, if◌then◌else◌}
use Rattle.std.specs.List.{list_any}
use Rattle.farm_types.specs.declared.depend.DependRow.{DependRow}
use Rattle.farm_types.specs.declared.depend.MetRow.{MetRow}
use Rattle.farm_types.specs.Farm.{Farm}
use Rattle.farm_types.specs.Finish.{waits_by, without_waiter}
use Rattle.farm_types.specs.Rising.{IsRising, depend_key}
use Rattle.depend_graph.specs.Graph.{GraphLists, IsGroup, Watch, Watched, groups_left, is_met, is_satisfied, no_graph, watch_of, with_depend}
use Rattle.depend_graph.specs.Graph.{with_done, without_depend}
use Rattle.depend_book.specs.declared.new_depend.NewDepend.{NewDepend}
use Rattle.farm_types.specs.declared.limits.TheConstants.{LAST_DEPEND, MOST_DEPENDS, MOST_GROUPS, SLOT_LIMIT}

-- the rows in the order of their numbers, the graph with a depend for each row, and the next depend's number
pub record DependLists : Type 0 where
  pub rows : List DependRow
  pub graph : GraphLists
  pub next : ℕ

abbrev pub no_depends : DependLists
no_depends = record { rows = []; graph = no_graph; next = 1 }

-- ---- what the rows say of the graph

abbrev pub row_of : DependRow → Watch → DependRow
row_of d w = record d { met_all = is_satisfied w }

-- each row says whether the depend at its place in the graph is satisfied
abbrev pub rows_of : List DependRow → List Watch → List DependRow
rows_of [] watches = []
rows_of (d ∷ ds) [] = d ∷ ds
rows_of (d ∷ ds) (w ∷ ws) = row_of d w ∷ rows_of ds ws

abbrev pub watch_number : Watch → ℕ
watch_number w = w.depend

-- the rows are those of the graph's depends, in the order of their numbers, and each slot has its flag
pub record IsBook (b : DependLists) : Type 0 where
  pub flags : length b.graph.done ≡ SLOT_LIMIT
  pub numbers : map depend_key b.rows ≡ map watch_number b.graph.depends
  pub rows_are : rows_of b.rows b.graph.depends ≡ b.rows
  pub rise : IsRising depend_key 1 b.rows b.next
  pub next_within : b.next ≤ LAST_DEPEND + 1
  pub count : length b.rows ≤ MOST_DEPENDS
  pub groups_within : groups_left b.graph.depends ≤ MOST_GROUPS

-- ---- what the farm has of them

-- the mark of a met group
abbrev pub mark_of : ℕ → Watched → MetRow
mark_of depend w = record { depend = depend; position = w.group.position }

-- the met groups of a depend that isn't satisfied
abbrev pub marks_in : Watch → List MetRow
marks_in w = if is_satisfied w then [] else map (mark_of w.depend) (filter is_met w.groups)

abbrev pub marks_of : List Watch → List MetRow
marks_of [] = []
marks_of (w ∷ ws) = marks_in w ++ marks_of ws

-- a farm with these depends
abbrev pub joined : Farm → DependLists → Farm
joined f b = record f { depends = b.rows; met = marks_of b.graph.depends; next_depend = b.next }

-- ---- changes

abbrev pub added_row : ℕ → NewDepend → Bool → DependRow
added_row depend n met_all = record { depend = depend; kind = n.kind; any = n.any; met_all = met_all; waiter = n.waiter; target = n.target }

-- one depend more
abbrev pub with_new : DependLists → NewDepend → DependLists
with_new b n =
    record {
      rows = b.rows ++ added_row b.next n (is_satisfied (watch_of b.graph.done b.next n.groups)) ∷ [];
      graph = with_depend b.graph b.next n.groups;
      next = b.next + 1;
    }

-- the depend fits: a number is left, there is room for it, and for its groups
pub record CanAdd (b : DependLists) (n : NewDepend) : Type 0 where
  pub number_left : b.next ≤ LAST_DEPEND
  pub room : length b.rows < MOST_DEPENDS
  pub groups_within : groups_left b.graph.depends + length n.groups ≤ MOST_GROUPS
  pub each : All IsGroup n.groups

abbrev pub with_graph : DependLists → GraphLists → DependLists
with_graph b g = record b { rows = rows_of b.rows g.depends; graph = g }

abbrev pub done_in : DependLists → ℕ → Bool → DependLists
done_in b slot done = with_graph b (with_done b.graph slot done)

-- frames are done, one after the other
abbrev pub all_done_in : DependLists → List ℕ → DependLists
all_done_in b [] = b
all_done_in b (slot ∷ slots) = all_done_in (done_in b slot true) slots

abbrev pub dropped_in : DependLists → ℕ → DependLists
dropped_in b depend = with_graph b (without_depend b.graph depend)

-- a depend of that number is among the rows in which a frame of the job waits
abbrev pub waits_in_one : ℕ → List DependRow → ℕ → Bool
waits_in_one job rows depend = list_any (λ (d : DependRow). waits_by job d && depend == d.depend) rows

abbrev pub is_kept_by : ℕ → List DependRow → Watch → Bool
is_kept_by job rows w = not (waits_in_one job rows w.depend)

-- the graph without the depends in which the job waits
abbrev pub graph_without : ℕ → List DependRow → GraphLists → GraphLists
graph_without job rows g = record g { depends = filter (is_kept_by job rows) g.depends }

-- the depends in which the job waits go, with their groups
abbrev pub without_waiter_in : DependLists → ℕ → DependLists
without_waiter_in b job = record b { rows = without_waiter job b.rows; graph = graph_without job b.rows b.graph }

-- ---- what is read

abbrev pub row_in : DependLists → ℕ → Option DependRow
row_in b depend = find (λ (d : DependRow). d.depend == depend) b.rows

-- the numbers of the depends in which the job waits, the last one first, before those found so far
abbrev pub waiting_from : ℕ → List ℕ → List DependRow → List ℕ
waiting_from job found [] = found
waiting_from job found (d ∷ ds) = waiting_from job (if waits_by job d then d.depend ∷ found else found) ds

abbrev pub waiting_in : DependLists → ℕ → List ℕ
waiting_in b job = waiting_from job [] b.rows

-- the number of the depend with the least number above that one
abbrev pub next_in : DependLists → ℕ → Option ℕ
next_in b after = option_map (λ (d : DependRow). d.depend) (find (λ (d : DependRow). nat_lt after d.depend) b.rows)
