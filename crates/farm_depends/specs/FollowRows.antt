-- The rows that change with what follows an act.
use Rattle.std.specs.Prelude.{ℕ, ◌≡◌, ◌≤◌, ◌==◌, ◌+◌, Bool, true, List, [], ◌∷◌, ◌++◌, map, filter, length, is_some, slice_get, Option, None, Some}
use Rattle.std.specs.Prelude.{option_map, if◌then◌else◌}
use Rattle.std.specs.List.{list_all}
use Rattle.farm_types.specs.declared.depend.DependRow.{DependRow}
use Rattle.farm_types.specs.declared.depend.Group.{Group}
use Rattle.farm_types.specs.declared.depend.MetRow.{MetRow}
use Rattle.farm_types.specs.declared.slot_row.SlotRow.{SlotRow}
use Rattle.farm_types.specs.Depends.{are_done}
use Rattle.farm_types.specs.Farm.{Farm}
use Rattle.farm_types.specs.declared.limits.TheConstants.{SLOT_LIMIT}
use Rattle.farm_rows.specs.declared.farm_row.FarmRow.{FarmRow}
use Rattle.farm_rows.specs.declared.farm_row.FarmRow.TheVariants as row
use Rattle.farm_rows.specs.declared.frame_row.FrameRow.{FrameRow}
use Rattle.farm_rows.specs.declared.frame_row.StoredFrame.{StoredFrame}
use Rattle.farm_rows.specs.declared.frame_row.StoredState.{StoredState}
use Rattle.farm_rows.specs.declared.frame_row.StoredState.TheVariants as stored
use Rattle.farm_rows.specs.declared.row_change.RowChange.{RowChange}
use Rattle.farm_rows.specs.declared.row_change.RowChange.TheVariants as change
use Rattle.farm_rows.specs.declared.row_key.RowKey.TheVariants as key
use Rattle.farm_rows.specs.Changes.{MakesRows, beside, row_after}
use Rattle.farm_rows.specs.Rows.{frame_row}
use Rattle.depend_graph.specs.declared.trials.marks.Marks.{Marks}
use Rattle.depend_graph.specs.Graph.{groups_at, is_flagged}
use Rattle.depend_graph.specs.Watches.{mark_for}
use Rattle.depend_book.specs.declared.new_depend.NewDepend.{NewDepend}
use Rattle.depend_book.specs.Book.{DependLists, added_row, mark_of, row_in}
use Rattle.farm_depends.specs.declared.follow.Follow.{Follow}
use Rattle.farm_depends.specs.Follow.{FollowFits, change_of, slots_after}

-- `g` is the farm after an act, with the same depends: these changes of rows lead to it, and what follows fits it.
pub record IsActed (f : Farm) (acted : List RowChange) (w : Follow) (g : Farm) : Type 0 where
  pub depends : beside g f.depends f.met f.next_depend ≡ g
  pub rows : MakesRows f g acted
  pub fits : FollowFits f g w
  pub count : length (slots_after g.slots w) ≤ SLOT_LIMIT

-- ---- depends and marks

abbrev pub put_depend : DependRow → RowChange
put_depend d = change.Put (row.Depend d)

abbrev pub put_mark : MetRow → RowChange
put_mark m = change.Put (row.Met m)

abbrev pub delete_mark : MetRow → RowChange
delete_mark m = change.Delete (key.Met m.depend m.position)

-- ---- depends that come

abbrev pub are_met_at_once : List Bool → List Group → Bool
are_met_at_once done groups = list_all (are_done (is_flagged done)) groups

-- the marks of the groups that are met at once
abbrev pub once_marks : List Bool → ℕ → List Group → List MetRow
once_marks done depend groups = map (mark_for depend) (filter (are_done (is_flagged done)) groups)

-- the depend's row, and its marks where it isn't satisfied at once
abbrev pub coming_rows : List Bool → ℕ → NewDepend → List RowChange
coming_rows done depend n =
    put_depend (added_row depend n (are_met_at_once done n.groups))
    ∷ (if are_met_at_once done n.groups then [] else map put_mark (once_marks done depend n.groups))

abbrev pub all_coming_rows : List Bool → ℕ → List NewDepend → List RowChange
all_coming_rows done depend [] = []
all_coming_rows done depend (n ∷ ns) = coming_rows done depend n ++ all_coming_rows done (depend + 1) ns

-- ---- depends that are satisfied

abbrev pub put_satisfied : Option DependRow → List RowChange
put_satisfied None = []
put_satisfied (Some d) = put_depend (record d { met_all = true }) ∷ []

-- the depend's row, and none of its marks
abbrev pub satisfied_rows : DependLists → ℕ → List RowChange
satisfied_rows b depend = put_satisfied (row_in b depend) ++ map delete_mark (map (mark_of depend) (groups_at b.graph.depends depend))

abbrev pub all_satisfied_rows : DependLists → List ℕ → List RowChange
all_satisfied_rows b [] = []
all_satisfied_rows b (n ∷ ns) = satisfied_rows b n ++ all_satisfied_rows b ns

abbrev pub dropped_rows : DependLists → Option ℕ → List RowChange
dropped_rows b None = []
dropped_rows b (Some depend) = satisfied_rows b depend

-- the groups that are met, and then the depends that are satisfied by that
abbrev pub met_rows : DependLists → Marks → List RowChange
met_rows b marks = map put_mark marks.met ++ all_satisfied_rows b marks.satisfied

-- ---- frames that open or are blocked

abbrev pub stored_in : StoredState → StoredFrame → StoredFrame
stored_in state x = record x { state = state }

abbrev pub opened_row : FrameRow → FrameRow
opened_row r = record r { frame = option_map (stored_in stored.Waiting) r.frame }

abbrev pub blocked_row : Bool → FrameRow → FrameRow
blocked_row raises r = record r { version = change_of raises r.version; frame = option_map (stored_in stored.Depend) r.frame }

-- the row of a frame that a change puts in
abbrev pub frame_put : RowChange → Option FrameRow
frame_put (change.Put (row.Frame r)) = Some r
frame_put other = None

abbrev pub noted : Option FrameRow → ℕ → Option FrameRow → Option FrameRow
noted None slot old = old
noted (Some r) slot old = if r.slot == slot then Some r else old

-- the row that was noted of a slot, or the slot's own
abbrev pub frame_or : ℕ → Option SlotRow → Option FrameRow → Option FrameRow
frame_or slot own (Some r) = Some r
frame_or slot own None = option_map (frame_row slot) own

-- what was noted is said of the slot, or else what was said before
abbrev pub laid_over : Option FrameRow → Option FarmRow → Option FarmRow
laid_over (Some r) old = Some (row.Frame r)
laid_over None old = old

-- where the changes put a frame's row in last, it is noted
abbrev pub Notes : List RowChange → (ℕ → Option FrameRow) → Type 0
Notes cs frames =
    (slot : ℕ) (old : Option FarmRow) (r : FrameRow) → row_after cs (key.Frame slot) old ≡ Some (row.Frame r) → laid_over (frames slot) old ≡ Some (row.Frame r)

-- The changes so far lead from one farm to the other, of whose slots with frames the rows were noted, or are as the books' slots.
pub record Stands (g : Farm) (own : List SlotRow) (f : Farm) (rows : List RowChange) (frames : ℕ → Option FrameRow) : Type 0 where
  pub rows_made : MakesRows g f rows
  pub read : (slot : ℕ) (s : SlotRow) → slice_get f.slots slot ≡ Some s → is_some s.frame ≡ true
      → frame_or slot (slice_get own slot) (frames slot) ≡ Some (frame_row slot s)

-- the row is put in, and noted
pub record IsPut (r : FrameRow) (old_rows new_rows : List RowChange) (old new : ℕ → Option FrameRow) : Type 0 where
  pub put : new_rows ≡ old_rows ++ change.Put (row.Frame r) ∷ []
  pub noted_then : (slot : ℕ) → new slot ≡ noted (Some r) slot (old slot)
