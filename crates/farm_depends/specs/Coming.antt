-- A depend that comes: which of its groups aren't met at once, which frames it blocks, and when it is refused.
use Rattle.std.specs.Prelude.{ℕ, ◌≡◌, ◌+◌, ◌∷◌, [], ◌++◌, Bool, true, false, not, List, filter, length, map, nat_le, nat_lt, None, Some, Option}
use Rattle.std.specs.Prelude.{option_map, Result, Ok, Err, slice_get, if◌then◌else◌}
use Rattle.farm_types.specs.declared.depend.DependSpec.{DependSpec}
use Rattle.farm_types.specs.declared.depend.Group.{Group}
use Rattle.farm_types.specs.declared.refusal.Counted.TheVariants as counted
use Rattle.farm_types.specs.declared.refusal.Refusal.{Refusal}
use Rattle.farm_types.specs.declared.refusal.Refusal.TheVariants.{Full, SelfDepend, Started}
use Rattle.farm_types.specs.declared.slot_row.SlotRow.{SlotRow}
use Rattle.farm_types.specs.DependActs.{frame_name_at, new_groups, or_else, place_refusal, runs_already, waits_for_itself}
use Rattle.farm_types.specs.Depends.{are_done, groups_left, is_done}
use Rattle.farm_types.specs.Farm.{Farm, for_some}
use Rattle.farm_types.specs.Operators.{waits}
use Rattle.farm_types.specs.declared.limits.TheConstants.{LAST_DEPEND, MOST_DEPENDS, MOST_GROUPS}
use Rattle.depend_graph.specs.Graph.{is_flagged, no_marks}
use Rattle.depend_book.specs.declared.new_depend.NewDepend.{NewDepend}
use Rattle.farm_types.specs.declared.fault.FarmFault.{FarmFault}
use Rattle.farm_types.specs.declared.fault.FarmFault.TheVariants.{Refused, NoMemory}
use Rattle.farm_depends.specs.declared.new_depends.room.Counts.{Counts}
use Rattle.farm_depends.specs.declared.follow.Follow.{Follow}
use Rattle.farm_depends.specs.Follow.{all_coming, coming}

-- ---- who waits unmet

-- the group isn't met at once
abbrev pub is_unmet : List SlotRow → Group → Bool
is_unmet slots g = not (are_done (is_done slots) g)

-- the frames that wait in groups, one group after the other
abbrev pub waiters_of : List Group → List ℕ
waiters_of [] = []
waiters_of (g ∷ gs) = g.waiters ++ waiters_of gs

-- the frames that wait by a depend that comes, in those of its groups that aren't met at once
abbrev pub unmet_waiters : Farm → DependSpec → List ℕ
unmet_waiters f spec = waiters_of (filter (is_unmet f.slots) (new_groups f spec))

-- the same of several depends, each as in the farm without the others
abbrev pub all_unmet_waiters : Farm → List DependSpec → List ℕ
all_unmet_waiters f [] = []
all_unmet_waiters f (spec ∷ specs) = unmet_waiters f spec ++ all_unmet_waiters f specs

-- the slot's frame waits to be booked
abbrev pub waits_at : List SlotRow → ℕ → Bool
waits_at slots slot = for_some (slice_get slots slot) waits

-- ---- what follows

-- a depend that is asked for: it blocks the frames that wait to be booked, and counts all that wait by it unmet
abbrev pub follow_added : Farm → DependSpec → Follow
follow_added f spec =
    record {
      depends = coming f spec ∷ [];
      spares = [];
      dropped = None;
      done = [];
      marks = no_marks;
      reopened = None;
      opened = [];
      blocked = filter (waits_at f.slots) (unmet_waiters f spec);
      raises = true;
      count = length (unmet_waiters f spec);
    }

-- the depends of a job that was placed, which block these frames
abbrev pub follow_placed : Farm → List DependSpec → List ℕ → Follow
follow_placed f specs blocked =
    record { depends = all_coming f specs; spares = []; dropped = None; done = []; marks = no_marks; reopened = None; opened = []; blocked = blocked; raises = false; count = 0 }

-- ---- refusals, by counts

-- how many depends there are, how many groups those have that aren't satisfied, and the next depend's number
abbrev pub counts_in : Farm → Counts
counts_in f = record { depends = length f.depends; groups = groups_left f; next = f.next_depend }

-- with a depend more, of so many groups
abbrev pub counts_more : Counts → ℕ → Counts
counts_more c groups = record { depends = c.depends + 1; groups = c.groups + groups; next = c.next + 1 }

-- there is room for a depend of so many groups, and a number for it
abbrev pub counts_full : Counts → ℕ → Option Refusal
counts_full c groups =
    if nat_le MOST_DEPENDS c.depends then Some (Full MOST_DEPENDS counted.Depends)
    else (if nat_lt MOST_GROUPS (c.groups + groups) then Some (Full MOST_GROUPS counted.Groups)
    else (if nat_lt LAST_DEPEND c.next then Some (Full LAST_DEPEND counted.DependNumbers) else None))

-- what is refused of a depend's groups
abbrev pub self_refusal : Farm → List Group → Option Refusal
self_refusal f groups = option_map (λ slot. SelfDepend (frame_name_at f slot)) (waits_for_itself groups)

abbrev pub started_refusal : Farm → List Group → Option Refusal
started_refusal f groups = option_map (λ slot. Started (frame_name_at f slot)) (runs_already f.slots groups)

abbrev pub groups_refusal_with : Farm → Counts → List Group → Option Refusal
groups_refusal_with f c groups = or_else (self_refusal f groups) (or_else (started_refusal f groups) (counts_full c (length groups)))

-- what is refused of a depend, where there is so much room
abbrev pub refusal_with : Farm → Counts → DependSpec → Option Refusal
refusal_with f c spec = or_else (place_refusal f spec.waiter) (or_else (place_refusal f spec.target) (groups_refusal_with f c (new_groups f spec)))

-- the first refusal of depends in turn
abbrev pub refusal_with_all : Farm → Counts → List DependSpec → Option Refusal
refusal_with_all f c [] = None
refusal_with_all f c (spec ∷ specs) = or_else (refusal_with f c spec) (refusal_with_all f (counts_more c (length (new_groups f spec))) specs)

-- the depend, or exactly its refusal
abbrev pub Comes : Farm → Counts → DependSpec → Result NewDepend FarmFault → Type 0
Comes f c spec (Ok n) = (refusal_with f c spec ≡ None) × (n ≡ coming f spec)
Comes f c spec (Err (Refused why)) = refusal_with f c spec ≡ Some why
Comes f c spec (Err NoMemory) = Unit {0}

-- each as in the farm without the others
abbrev pub each_coming : Farm → List DependSpec → List NewDepend
each_coming f specs = map (coming f) specs

-- the depends, or exactly the first refusal
abbrev pub ComeAll : Farm → Counts → List DependSpec → Result (List NewDepend) FarmFault → Type 0
ComeAll f c specs (Ok ns) = (refusal_with_all f c specs ≡ None) × (ns ≡ each_coming f specs)
ComeAll f c specs (Err (Refused why)) = refusal_with_all f c specs ≡ Some why
ComeAll f c specs (Err NoMemory) = Unit {0}

-- ---- what the code asks of the graph

-- the group isn't met at once, by the flags of the frames that are done
abbrev pub is_unmet_by : List Bool → Group → Bool
is_unmet_by done g = not (are_done (is_flagged done) g)

abbrev pub unmet_by : List Bool → List Group → List ℕ
unmet_by done groups = waiters_of (filter (is_unmet_by done) groups)

-- of several depends
abbrev pub all_unmet_by : List Bool → List NewDepend → List ℕ
all_unmet_by done [] = []
all_unmet_by done (n ∷ ns) = unmet_by done n.groups ++ all_unmet_by done ns

-- what follows a depend that comes: it blocks the frames that wait to be booked, and counts all that wait by it unmet
abbrev pub follow_new : List SlotRow → List Bool → NewDepend → Follow
follow_new slots done n =
    record {
      depends = n ∷ [];
      spares = [];
      dropped = None;
      done = [];
      marks = no_marks;
      reopened = None;
      opened = [];
      blocked = filter (waits_at slots) (unmet_by done n.groups);
      raises = true;
      count = length (unmet_by done n.groups);
    }
