-- The rows of the store, and those of a farm, by kind, then id.
use Rattle.std.specs.Prelude.{ℕ, ◌≡◌, ◌⊎◌, ◌==◌, ◌&&◌, ◌+◌, ◌*◌, Bool, true, not, List, [], ◌∷◌, ◌++◌, map, is_some, Option, None, Some, option_map, if◌then◌else◌}
use Rattle.farm_types.specs.declared.attempt.ProcRow.{ProcRow}
use Rattle.farm_types.specs.declared.slot_row.Frame.{Frame}
use Rattle.farm_types.specs.declared.slot_row.SlotRow.{SlotRow}
use Rattle.farm_types.specs.declared.states.FrameState.{FrameState}
use Rattle.farm_types.specs.declared.states.FrameState.TheVariants as frame_state
use Rattle.farm_types.specs.Farm.{Farm}
use Rattle.farm_rows.specs.declared.farm_row.FarmRow.{FarmRow}
use Rattle.farm_rows.specs.declared.farm_row.FarmRow.TheVariants as row
use Rattle.farm_rows.specs.declared.frame_row.FrameRow.{FrameRow}
use Rattle.farm_rows.specs.declared.frame_row.StoredFrame.{StoredFrame}
use Rattle.farm_rows.specs.declared.frame_row.StoredState.{StoredState}
use Rattle.farm_rows.specs.declared.frame_row.StoredState.TheVariants as stored
use Rattle.farm_rows.specs.declared.head_row.HeadRow.{HeadRow}
use Rattle.farm_rows.specs.declared.head_row.TheConstants.{ROW_FORMAT}
use Rattle.farm_rows.specs.declared.ids.TheConstants.{GROUP_IDS, LAYER_IDS}

-- ---- kinds and ids

abbrev pub row_kind : FarmRow → ℕ
row_kind (row.Head head) = 1
row_kind (row.Show show r) = 2
row_kind (row.Alloc alloc r) = 3
row_kind (row.Sub r) = 4
row_kind (row.Host host r) = 5
row_kind (row.Job r) = 6
row_kind (row.Layer r) = 7
row_kind (row.Frame r) = 8
row_kind (row.Depend r) = 9
row_kind (row.Met r) = 10
row_kind (row.Limit limit r) = 11

abbrev pub row_id : FarmRow → ℕ
row_id (row.Head head) = 0
row_id (row.Show show r) = show
row_id (row.Alloc alloc r) = alloc
row_id (row.Sub r) = r.sub
row_id (row.Host host r) = host
row_id (row.Job r) = r.job
row_id (row.Layer r) = LAYER_IDS * r.job + r.place
row_id (row.Frame r) = r.slot
row_id (row.Depend r) = r.depend
row_id (row.Met r) = GROUP_IDS * r.depend + r.position
row_id (row.Limit limit r) = limit

-- ---- slots

-- What is stored of a frame's state. A running frame has its attempt.
abbrev pub running_state : Option ProcRow → StoredState
running_state None = stored.Running 0 0 0
running_state (Some p) = stored.Running p.boot p.host p.since

abbrev pub stored_state : Option ProcRow → FrameState → StoredState
stored_state proc frame_state.Waiting = stored.Waiting
stored_state proc frame_state.Setup = stored.Setup
stored_state proc frame_state.Running = running_state proc
stored_state proc frame_state.Succeeded = stored.Succeeded
stored_state proc frame_state.Depend = stored.Depend
stored_state proc frame_state.Dead = stored.Dead
stored_state proc frame_state.Eaten = stored.Eaten

abbrev pub stored_frame : Option ProcRow → Frame → StoredFrame
stored_frame proc x =
    record { job = x.job; layer = x.layer; number = x.number; retries = x.retries; state = stored_state proc x.state }

abbrev pub frame_row : ℕ → SlotRow → FrameRow
frame_row slot s = record { slot = slot; version = s.version; frame = option_map (stored_frame s.proc) s.frame }

-- a slot that is free at version 0, as one past the list's end is
abbrev pub is_unused : SlotRow → Bool
is_unused s = not (is_some s.frame) && s.version == 0

-- the rows of the slots that were used, the first of them at a place
abbrev pub slot_rows : ℕ → List SlotRow → List FarmRow
slot_rows place [] = []
slot_rows place (s ∷ ss) = if is_unused s then slot_rows (place + 1) ss else row.Frame (frame_row place s) ∷ slot_rows (place + 1) ss

-- ---- all rows

-- rows that are numbered by their places, the first of them at a place
abbrev pub numbered : {X : Type 0} → (ℕ → X → FarmRow) → ℕ → List X → List FarmRow
numbered make place [] = []
numbered make place (x ∷ xs) = make place x ∷ numbered make (place + 1) xs

-- the farm's own row, in that format
abbrev pub head_in : ℕ → Farm → HeadRow
head_in format f = record { format = format; moment = f.moment; jobs = f.next_job; finishes = f.next_finish; depends = f.next_depend }

abbrev pub head_row : Farm → HeadRow
head_row f = head_in ROW_FORMAT f

-- the rows of a farm but for its own
abbrev pub rows_but_head : Farm → List FarmRow
rows_but_head f =
    numbered row.Show 0 f.shows ++ (numbered row.Alloc 0 f.allocs ++ (map row.Sub f.subs ++ (numbered row.Host 0 f.hosts
    ++ (map row.Job f.jobs ++ (map row.Layer f.layers ++ (slot_rows 0 f.slots ++ (map row.Depend f.depends ++ (map row.Met f.met
    ++ numbered row.Limit 0 f.limits))))))))

-- the rows of a farm that an entry has made, in a format, and as they are written
abbrev pub recorded_in : ℕ → Farm → List FarmRow
recorded_in format f = row.Head (head_in format f) ∷ rows_but_head f

abbrev pub recorded_rows : Farm → List FarmRow
recorded_rows f = recorded_in ROW_FORMAT f

-- The rows of a farm in a format. The farm that no entry has made yet has none.
abbrev pub rows_in : ℕ → Farm → List FarmRow
rows_in format f = if f.recorded then recorded_in format f else []

-- the farm has rows in that format: format 1 has no limits, and where there are no rows nothing says it
abbrev pub HasRowsIn : ℕ → Farm → Type 0
HasRowsIn format f = (format ≡ ROW_FORMAT) ⊎ ((format ≡ 1) × (f.recorded ≡ true) × (f.limits ≡ []))

-- the rows of a farm, in the format in which they are written
abbrev pub rows_of : Farm → List FarmRow
rows_of f = rows_in ROW_FORMAT f
