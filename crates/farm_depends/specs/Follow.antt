-- What follows an act of depends: which depends come or go, which frames are done, or not any more, and which open or are blocked.
use Rattle.std.specs.Prelude.{ℕ, ◌≡◌, ◌==◌, ◌&&◌, ◌||◌, ◌+◌, ◌≤◌, ◌<◌, ◌⊎◌, All, Bool, true, false, not, List, [], ◌∷◌, ◌++◌, map, length, slice_get}
use Rattle.std.specs.Prelude.{is_some, Option, None, Some, IsSomeAnd, Result, Ok, Err}
use Rattle.std.specs.List.{IsDistinct}
use Rattle.std.specs.Prelude.{nat_eq}
use Rattle.farm_types.specs.declared.depend.DependRow.{DependRow}
use Rattle.farm_types.specs.declared.depend.DependSpec.{DependSpec}
use Rattle.farm_types.specs.declared.slot_row.SlotRow.{SlotRow}
use Rattle.farm_types.specs.declared.states.FrameState.TheVariants as frame_state
use Rattle.farm_types.specs.Booking.{is_waiting}
use Rattle.farm_types.specs.declared.entry.Act.{Act}
use Rattle.farm_types.specs.declared.entry.Act.TheVariants as act
use Rattle.farm_types.specs.DependActs.{add_depend, depend_at, dropped, end_of, new_groups, unmet_of}
use Rattle.farm_types.specs.Depends.{groups_left, groups_of, is_done}
use Rattle.farm_types.specs.Farm.{Farm, changed_at, for_some}
use Rattle.farm_types.specs.Settle.{blocked_row, in_state, is_blocked, kept_version, opened_by, raised, settle, with_met}
use Rattle.farm_types.specs.Step.{follow_refusal, followed}
use Rattle.farm_types.specs.declared.limits.TheConstants.{LAST_DEPEND, MOST_DEPENDS, MOST_GROUPS}
use Rattle.depend_graph.specs.Graph.{GraphLists, HasMet, IsGroup, has_depend, no_marks, with_all_done}
use Rattle.depend_book.specs.Book.{DependLists, all_done_in, done_in, dropped_in}
use Rattle.depend_book.specs.declared.new_depend.NewDepend.{NewDepend}
use Rattle.farm_types.specs.declared.fault.FarmFault.{FarmFault}
use Rattle.farm_types.specs.declared.fault.FarmFault.TheVariants.{Refused, NoMemory}
use Rattle.farm_books.specs.Books.{FarmBooks, depends_of, with_depends, with_farm}
pub use Rattle.farm_books.specs.Cleared.{is_listed}
pub use Rattle.farm_books.specs.Coming.{CanAddAll, spare_for, with_new_all}
use Rattle.farm_depends.specs.declared.follow.Follow.{Follow}

abbrev pub nothing_follows : Follow
nothing_follows = record { depends = []; spares = []; dropped = None; done = []; marks = no_marks; reopened = None; opened = []; blocked = []; raises = false; count = 0 }

-- what is met is what the frames that are done meet in the graph
abbrev pub HasMarks : GraphLists → Follow → Type 0
HasMarks g w = HasMet g.depends (with_all_done g w.done).depends w.marks

-- ---- depends that come

-- the depend as the farm makes it of what is asked
abbrev pub coming : Farm → DependSpec → NewDepend
coming f spec =
    record { kind = spec.kind; any = spec.any; waiter = end_of f spec.waiter; target = end_of f spec.target; groups = new_groups f spec }

-- in turn, each of the farm with those before it
abbrev pub all_coming : Farm → List DependSpec → List NewDepend
all_coming f [] = []
all_coming f (spec ∷ specs) = coming f spec ∷ all_coming (add_depend f spec) specs

-- the row of a depend that comes, of which nothing is met
abbrev pub row_for : ℕ → NewDepend → DependRow
row_for depend n = record { depend = depend; kind = n.kind; any = n.any; met_all = false; waiter = n.waiter; target = n.target }

abbrev pub with_row : Farm → NewDepend → Farm
with_row f n = record f { depends = f.depends ++ row_for f.next_depend n ∷ []; next_depend = f.next_depend + 1 }

abbrev pub with_all : Farm → List NewDepend → Farm
with_all f [] = f
with_all f (n ∷ ns) = with_all (with_row f n) ns

abbrev pub without : Farm → Option ℕ → Farm
without f None = f
without f (Some depend) = dropped f depend

-- ---- slots

-- the frames in these slots wait
abbrev pub put_opened : List ℕ → List SlotRow → List SlotRow
put_opened [] slots = slots
put_opened (n ∷ ns) slots = put_opened ns (changed_at slots n (in_state frame_state.Waiting))

abbrev pub change_of : Bool → ℕ → ℕ
change_of true version = raised version
change_of false version = kept_version version

-- the frames in these slots are blocked; `raises` says whether they leave their version
abbrev pub put_blocked : Bool → List ℕ → List SlotRow → List SlotRow
put_blocked raises [] slots = slots
put_blocked raises (n ∷ ns) slots = put_blocked raises ns (changed_at slots n (blocked_row (change_of raises)))

-- the slots after what follows
abbrev pub slots_after : List SlotRow → Follow → List SlotRow
slots_after slots w = put_blocked w.raises w.blocked (put_opened w.opened slots)

-- ---- the farm after what follows

abbrev pub after_follow : Farm → Follow → Farm
after_follow f w = record (with_met (without (with_all f w.depends) w.dropped)) { slots = slots_after f.slots w }

abbrev pub is_moved : SlotRow → Bool
is_moved s = for_some s.frame (λ x. is_waiting x.state || is_blocked x.state)

-- the slot has a frame that waits or is blocked, and so no attempt
abbrev pub IsMovable : List SlotRow → ℕ → Type 0
IsMovable slots slot = IsSomeAnd (slice_get slots slot) (λ s. (is_moved s ≡ true) × (s.proc ≡ None))

-- ---- when it fits

-- the depend is of what is there; a number, a row and its groups' room are left; no slot stands twice in a group
pub record IsRoomy (f : Farm) (n : NewDepend) : Type 0 where
  pub number_left : f.next_depend ≤ LAST_DEPEND
  pub row_left : length f.depends < MOST_DEPENDS
  pub groups_left : groups_left f + length n.groups ≤ MOST_GROUPS
  pub groups_are : n.groups ≡ groups_of f (row_for f.next_depend n)
  pub each : All IsGroup n.groups

abbrev pub AreRoomy : Farm → List NewDepend → Type 0
AreRoomy f [] = Unit {0}
AreRoomy f (n ∷ ns) = IsRoomy f n × AreRoomy (with_row f n) ns

-- the depend is there
abbrev pub IsDropThere : Farm → Option ℕ → Type 0
IsDropThere f None = Unit {0}
IsDropThere f (Some depend) = is_some (depend_at f depend) ≡ true

-- no depend comes or goes
abbrev pub NoneCome : Follow → Type 0
NoneCome w = (w.depends ≡ []) × (w.dropped ≡ None)

-- frames are done, or depends come or go, or a frame isn't done any more
abbrev pub IsOneKind : Follow → Type 0
IsOneKind w = (NoneCome w × (w.reopened ≡ None)) ⊎ (((w.done ≡ []) × (w.reopened ≡ None)) ⊎ (NoneCome w × (w.done ≡ [])))

-- the slot is the one named
abbrev pub is_one : Option ℕ → ℕ → Bool
is_one None slot = false
is_one (Some n) slot = n == slot

-- What follows fits the farm, `old` before the act and `f` after it: the groups of what isn't satisfied stayed, exactly the frames named are done that
-- weren't, or aren't any more, and each frame that opens or is blocked has no attempt.
pub record FollowFits (old f : Farm) (w : Follow) : Type 0 where
  pub groups_stay : (i : ℕ) (d : DependRow) → slice_get old.depends i ≡ Some d → d.met_all ≡ false → groups_of f d ≡ groups_of old d
  pub one_kind : IsOneKind w
  pub room : AreRoomy f w.depends
  pub drop_there : IsDropThere f w.dropped
  pub done_differ : IsDistinct nat_eq w.done
  pub undone : All (λ slot. is_done old.slots slot ≡ false) w.done
  pub done_are : (slot : ℕ) → is_done f.slots slot ≡ ((is_done old.slots slot && not (is_one w.reopened slot)) || is_listed w.done slot)
  pub opened_movable : All (IsMovable f.slots) w.opened
  pub blocked_movable : All (IsMovable f.slots) w.blocked

-- what the reply counts: frames that wait unmet, and frames that open
abbrev pub Counts : Farm → Act → ℕ → Type 0
Counts f (act.AddDepend spec) count = count ≡ unmet_of (settle (add_depend f spec)) f.next_depend
Counts f (act.DropDepend depend) count = count ≡ opened_by (dropped f depend)
Counts f other count = Unit {0}

-- the farm doesn't refuse what follows, it fits, and it makes what follows the act; no memory is taken for it yet
pub record Follows (old f : Farm) (done : Act) (w : Follow) : Type 0 where
  pub accepted : follow_refusal old done ≡ None
  pub fits : FollowFits old f w
  pub unreserved : w.spares ≡ []
  pub farm : after_follow f w ≡ followed done f
  pub counts : Counts old done w.count

-- what follows the act, or exactly the refusal; running out of memory needs no cause
abbrev pub PreparesFollow : Farm → Farm → Act → Result Follow FarmFault → Type 0
PreparesFollow old f done (Ok w) = Follows old f done w
PreparesFollow old f done (Err (Refused why)) = follow_refusal old done ≡ Some why
PreparesFollow old f done (Err NoMemory) = Unit {0}

-- the same, with its memory taken
abbrev pub follow_reserved : Follow → Follow
follow_reserved w = record w { spares = map spare_for w.depends }

-- ---- the books after what follows

abbrev pub drop_in : DependLists → Option ℕ → DependLists
drop_in b None = b
drop_in b (Some depend) = dropped_in b depend

-- the frame in the slot isn't done any more
abbrev pub reopened_in : DependLists → Option ℕ → DependLists
reopened_in b None = b
reopened_in b (Some slot) = done_in b slot false

abbrev pub depends_after : DependLists → Follow → DependLists
depends_after b w = all_done_in (reopened_in (drop_in (with_new_all b w.depends) w.dropped) w.reopened) w.done

-- the same of books
abbrev pub drop_from : FarmBooks → Option ℕ → FarmBooks
drop_from v None = v
drop_from v (Some depend) = with_depends v (dropped_in (depends_of v) depend)

abbrev pub reopened_from : FarmBooks → Option ℕ → FarmBooks
reopened_from v None = v
reopened_from v (Some slot) = with_depends v (done_in (depends_of v) slot false)

-- the books after what follows
abbrev pub books_after : FarmBooks → Follow → FarmBooks
books_after v w = with_depends (with_farm v (record v.farm { slots = slots_after v.farm.slots w })) (depends_after (depends_of v) w)

abbrev pub HasDrop : DependLists → Option ℕ → Type 0
HasDrop b None = Unit {0}
HasDrop b (Some depend) = has_depend b.graph depend ≡ true

-- what the books need to take what follows; the memory for it was taken
pub record CanFollow (slots : List SlotRow) (b : DependLists) (w : Follow) : Type 0 where
  pub reserved : w.spares ≡ map spare_for w.depends
  pub adds : CanAddAll b w.depends
  pub drop_there : HasDrop (with_new_all b w.depends) w.dropped
  pub opened_movable : All (IsMovable slots) w.opened
  pub blocked_movable : All (IsMovable slots) w.blocked
