-- The farm that rows say: what each row adds, when it breaks the farm that the rows before it say, and which row is at fault after the last one.
use Rattle.std.specs.Prelude.{ℕ, ℤ, ◌≤◌, ◌==◌, ◌&&◌, ◌||◌, ◌+◌, ◌-◌, ◌*◌, ◌^◌, Bool, true, false, not, List, [], ◌∷◌, ◌++◌, map, filter, find, length, is_some, replicate, slice_get, bytes_eq, nat_le, nat_lt, Option, None, Some, Result, Ok, Err, option_map, option_and_then, if◌then◌else◌}
use Rattle.std.specs.List.{list_all, list_any, position_or_len}
use Rattle.std.specs.Ordering.{int_eq}
use Rattle.farm_types.specs.declared.attempt.ProcRow.{ProcRow}
use Rattle.farm_types.specs.declared.depend.DependEnd.{DependEnd}
use Rattle.farm_types.specs.declared.depend.DependRow.{DependRow}
use Rattle.farm_types.specs.declared.depend.Group.{Group}
use Rattle.farm_types.specs.declared.depend.LayerShape.{LayerShape}
use Rattle.farm_types.specs.declared.depend.MetRow.{MetRow}
use Rattle.farm_types.specs.declared.depend.Shape.{Shape}
use Rattle.farm_types.specs.declared.rows.AllocRow.{AllocRow}
use Rattle.farm_types.specs.declared.rows.HostRow.{HostRow}
use Rattle.farm_types.specs.declared.rows.JobRow.{JobRow}
use Rattle.farm_types.specs.declared.rows.LayerRow.{LayerRow}
use Rattle.farm_types.specs.declared.rows.LimitRow.{LimitRow}
use Rattle.farm_types.specs.declared.rows.ShowRow.{ShowRow}
use Rattle.farm_types.specs.declared.rows.SubRow.{SubRow}
use Rattle.farm_types.specs.declared.slot_row.Frame.{Frame}
use Rattle.farm_types.specs.declared.slot_row.SlotRow.{SlotRow}
use Rattle.farm_types.specs.declared.states.FrameState.{FrameState}
use Rattle.farm_types.specs.declared.states.FrameState.TheVariants as frame_state
use Rattle.farm_types.specs.Booking.{is_pending, is_up}
use Rattle.farm_types.specs.DependActs.{or_else, waits_for_itself}
use Rattle.farm_types.specs.Depends.{groups_left, groups_of, is_met}
use Rattle.farm_types.specs.Farm.{Farm, empty_farm, for_some, is_placed, job_at, layer_at, layers_of, slot_from, sub_at, sub_of}
use Rattle.farm_types.specs.Finish.{finishes, is_finished}
use Rattle.farm_types.specs.Forms.{is_between}
use Rattle.farm_types.specs.Groups.{groups_by, part_at}
use Rattle.farm_types.specs.Kept.{alloc_label, frames_said, has_its_counts, has_its_finish, host_label, is_formed_alloc, is_formed_depend, is_formed_host, is_formed_job, is_formed_layer, is_formed_limit, is_formed_show, has_its_limit, is_kept_sub, is_of_pending, is_pending_job, job_label, layer_label, limit_label, runs_unmet, show_label}
use Rattle.farm_types.specs.Ranges.{range_numbers}
use Rattle.farm_types.specs.Settle.{is_met_now, opens}
use Rattle.farm_types.specs.Sums.{used_cores, used_memory}
use Rattle.farm_types.specs.declared.limits.TheConstants.{LAST_DEPEND, LAST_JOB, LAST_VERSION, MOST_ALLOCS, MOST_DEPENDS, MOST_FINISHED, MOST_GROUPS, MOST_HOSTS, MOST_LIMITS, MOST_RETRIES, MOST_SHOWS, SLOT_LIMIT}
use Rattle.farm_rows.specs.declared.farm_row.FarmRow.{FarmRow}
use Rattle.farm_rows.specs.declared.farm_row.FarmRow.TheVariants as row
use Rattle.farm_rows.specs.declared.frame_row.FrameRow.{FrameRow}
use Rattle.farm_rows.specs.declared.frame_row.StoredFrame.{StoredFrame}
use Rattle.farm_rows.specs.declared.frame_row.StoredState.{StoredState}
use Rattle.farm_rows.specs.declared.frame_row.StoredState.TheVariants as stored
use Rattle.farm_rows.specs.declared.head_row.HeadRow.{HeadRow}
use Rattle.farm_rows.specs.declared.head_row.TheConstants.{ROW_FORMAT}
use Rattle.farm_rows.specs.Rows.{row_id, row_kind}
use Rattle.farm_rows.specs.declared.ids.TheConstants.{LAYER_IDS}

-- ---- what a row adds

-- the numbers of a job's layer at that place
abbrev pub numbers_in : Option LayerRow → List ℤ
numbers_in None = []
numbers_in (Some l) = range_numbers l.range

abbrev pub numbers_at : Farm → ℕ → ℕ → List ℤ
numbers_at f job layer = numbers_in (layer_at f job layer)

-- the position of a number in its layer's range
abbrev pub position_of : Farm → StoredFrame → ℕ
position_of f x = position_or_len (λ number. int_eq number x.number) (numbers_at f x.job x.layer)

abbrev pub state_of : StoredState → FrameState
state_of stored.Waiting = frame_state.Waiting
state_of stored.Setup = frame_state.Setup
state_of (stored.Running boot host since) = frame_state.Running
state_of stored.Succeeded = frame_state.Succeeded
state_of stored.Depend = frame_state.Depend
state_of stored.Dead = frame_state.Dead
state_of stored.Eaten = frame_state.Eaten

abbrev pub frame_of : Farm → StoredFrame → Frame
frame_of f x = record { job = x.job; layer = x.layer; position = position_of f x; number = x.number; retries = x.retries; state = state_of x.state }

-- the attempt at a running frame: it has its layer's amounts, on the subscription of its job's show to its host's allocation
abbrev pub attempt_of : ℕ → ℕ → ℕ → ℕ → ℕ → JobRow → LayerRow → HostRow → ProcRow
attempt_of slot version boot host since job layer h =
    record { slot = slot; version = version; host = host; boot = boot; cores = layer.cores; memory = layer.memory; sub = sub_of job.show h.alloc; since = since }

abbrev pub attempt_at : Farm → ℕ → ℕ → StoredFrame → StoredState → Option ProcRow
attempt_at f slot version x (stored.Running boot host since) =
    option_and_then (λ job. option_and_then (λ layer. option_map (λ h. attempt_of slot version boot host since job layer h) (slice_get f.hosts host))
    (layer_at f x.job x.layer)) (job_at f x.job)
attempt_at f slot version x other = None

abbrev pub slot_row : Farm → FrameRow → SlotRow
slot_row f r =
    record { version = r.version; frame = option_map (frame_of f) r.frame; proc = option_and_then (λ x. attempt_at f r.slot r.version x x.state) r.frame }

-- a slot that was never used
abbrev pub unused_slot : SlotRow
unused_slot = record { version = 0; frame = None; proc = None }

-- the slots up to one more; those between were never used
abbrev pub with_slot : List SlotRow → ℕ → SlotRow → List SlotRow
with_slot slots slot s = slots ++ (replicate (slot - length slots) unused_slot ++ s ∷ [])

abbrev pub with_stored : Farm → FarmRow → Farm
with_stored f (row.Head r) = record f { moment = r.moment; next_job = r.jobs; next_finish = r.finishes; next_depend = r.depends; recorded = true }
with_stored f (row.Show show r) = record f { shows = f.shows ++ r ∷ [] }
with_stored f (row.Alloc alloc r) = record f { allocs = f.allocs ++ r ∷ [] }
with_stored f (row.Sub r) = record f { subs = f.subs ++ r ∷ [] }
with_stored f (row.Host host r) = record f { hosts = f.hosts ++ r ∷ [] }
with_stored f (row.Job r) = record f { jobs = f.jobs ++ r ∷ [] }
with_stored f (row.Layer r) = record f { layers = f.layers ++ r ∷ [] }
with_stored f (row.Frame r) = record f { slots = with_slot f.slots r.slot (slot_row f r) }
with_stored f (row.Depend r) = record f { depends = f.depends ++ r ∷ [] }
with_stored f (row.Met r) = record f { met = f.met ++ r ∷ [] }
with_stored f (row.Limit limit r) = record f { limits = f.limits ++ r ∷ [] }

-- ---- when a row fits those before it

-- nothing in the list has the name
abbrev pub is_new : {X : Type 0} → (X → List ℕ) → List ℕ → List X → Bool
is_new label name xs = not (list_any (λ x. bytes_eq (label x) name) xs)

-- rows are of format 1, or of the one in which they are written
abbrev pub IsFormat : ℕ → Type 0
IsFormat format = (1 ≤ format) × (format ≤ ROW_FORMAT)

-- the first row: of one of both formats, its moment a number of 64 bits, each next number in its range
abbrev pub head_fits : Farm → HeadRow → Bool
head_fits f r =
    not f.recorded && (is_between 1 ROW_FORMAT r.format && (nat_lt r.moment (2 ^ 64) && (is_between 1 (LAST_DEPEND + 1) r.depends && (is_between 1 (LAST_JOB + 1) r.finishes && is_between 1 (LAST_JOB + 1) r.jobs))))

abbrev pub show_fits : Farm → ℕ → ShowRow → Bool
show_fits f show r = show == length f.shows && (nat_lt show MOST_SHOWS && (is_formed_show r && is_new show_label r.name f.shows))

abbrev pub alloc_fits : Farm → ℕ → AllocRow → Bool
alloc_fits f alloc r = alloc == length f.allocs && (nat_lt alloc MOST_ALLOCS && (is_formed_alloc r && is_new alloc_label (alloc_label r) f.allocs))

abbrev pub sub_fits : Farm → SubRow → Bool
sub_fits f r = is_kept_sub (length f.shows) (length f.allocs) r

abbrev pub host_fits : Farm → ℕ → HostRow → Bool
host_fits f host r =
    host == length f.hosts && (nat_lt host MOST_HOSTS && (is_formed_host r && (is_new host_label r.name f.hosts && (nat_lt r.alloc (length f.allocs) && nat_le r.heard f.moment))))

-- a pending job has no finish and no counts; a finished one has a finish of its own, counts that make its frames, and room among the finished ones
abbrev pub end_fits : Farm → JobRow → Bool
end_fits f r =
    has_its_finish f.next_finish r && (has_its_counts r
    && (is_pending r.state || (not (list_any (λ (j : JobRow). j.finish == r.finish) f.jobs) && nat_lt (length (filter is_finished f.jobs)) MOST_FINISHED)))

abbrev pub job_fits : Farm → JobRow → Bool
job_fits f r =
    is_between 1 (f.next_job - 1) r.job && (is_formed_job (length f.shows) r && (is_new job_label r.name f.jobs && end_fits f r))

-- the job's frames with the layer's are within what it was submitted with
abbrev pub frames_fit : Farm → LayerRow → Bool
frames_fit f r = for_some (job_at f r.job) (λ (j : JobRow). nat_le (frames_said (layers_of f.layers r.job) + length (range_numbers r.range)) j.frames)

abbrev pub layer_fits : Farm → LayerRow → Bool
layer_fits f r =
    is_of_pending f.jobs r.job && (r.place == length (layers_of f.layers r.job) && (is_formed_layer r && (is_new layer_label r.name (layers_of f.layers r.job) && frames_fit f r)))

-- there are limits in format 2 alone
abbrev pub limit_fits : ℕ → Farm → ℕ → LimitRow → Bool
limit_fits format f limit r =
    format == ROW_FORMAT && (limit == length f.limits && (nat_lt limit MOST_LIMITS && (is_formed_limit r && is_new limit_label r.name f.limits)))

-- ---- frames

-- an attempt's host is up in that boot and has room for it, its subscription is there, and it began at the moment or before it
abbrev pub room_on : Farm → ℕ → LayerRow → HostRow → Bool
room_on f host layer h = nat_le (used_cores f host + layer.cores) h.cores && nat_le (used_memory f host + layer.memory) h.memory

abbrev pub host_takes : Farm → ℕ → ℕ → JobRow → LayerRow → HostRow → Bool
host_takes f boot host job layer h =
    (is_up h.state && h.boot == boot) && (is_some (sub_at f (sub_of job.show h.alloc)) && room_on f host layer h)

abbrev pub attempt_fits : Farm → ℕ → StoredFrame → StoredState → Bool
attempt_fits f version x (stored.Running boot host since) =
    nat_lt 0 version && (nat_le since f.moment
    && for_some (job_at f x.job) (λ job. for_some (layer_at f x.job x.layer) (λ layer. for_some (slice_get f.hosts host) (host_takes f boot host job layer))))
attempt_fits f version x stored.Setup = false
attempt_fits f version x other = true

-- the layer has the number, which has no slot yet
abbrev pub frame_fits : Farm → ℕ → StoredFrame → Bool
frame_fits f version x =
    list_any (λ number. int_eq number x.number) (numbers_at f x.job x.layer) && (not (is_some (slot_from 0 (is_placed x.job x.layer (position_of f x)) f.slots))
    && (nat_le x.retries MOST_RETRIES && attempt_fits f version x x.state))

abbrev pub taken_fits : Farm → ℕ → Option StoredFrame → Bool
taken_fits f version None = nat_lt 0 version
taken_fits f version (Some x) = frame_fits f version x

abbrev pub slot_fits : Farm → FrameRow → Bool
slot_fits f r = nat_lt r.slot SLOT_LIMIT && (nat_le r.version LAST_VERSION && taken_fits f r.version r.frame)

-- ---- depends

-- the frame of that number in the layer has a slot, where one is named
abbrev pub is_frame_in : Farm → LayerRow → Option ℤ → Bool
is_frame_in f l None = true
is_frame_in f l (Some number) = is_some (slot_from 0 (λ (x : Frame). (x.job == l.job && x.layer == l.place) && int_eq x.number number) f.slots)

abbrev pub is_part_in : Farm → ℕ → Option (List ℕ) → Option ℤ → Bool
is_part_in f job None frame = true
is_part_in f job (Some name) frame = for_some (find (λ (l : LayerRow). bytes_eq l.name name) (layers_of f.layers job)) (λ (l : LayerRow). is_frame_in f l frame)

-- the end's job is pending, and its layer and its frame are there, where they are named
abbrev pub end_is_there : Farm → DependEnd → Bool
end_is_there f e = is_of_pending f.jobs e.job && is_part_in f e.job e.layer e.frame

-- the slot of a frame, or that number where it has none yet
abbrev pub slot_or : ℕ → Option ℕ → ℕ
slot_or none None = none
slot_or none (Some slot) = slot

-- the slots of the numbers of a layer, counted from a position, and that number for each that has none
abbrev pub slots_so_far : ℕ → List SlotRow → LayerRow → ℕ → List ℤ → List ℕ
slots_so_far none slots l position [] = []
slots_so_far none slots l position (n ∷ ns) = slot_or none (slot_from 0 (is_placed l.job l.place position) slots) ∷ slots_so_far none slots l (position + 1) ns

abbrev pub layer_so_far : ℕ → List SlotRow → LayerRow → LayerShape
layer_so_far none slots l = record { name = l.name; numbers = range_numbers l.range; slots = slots_so_far none slots l 0 (range_numbers l.range) }

abbrev pub shape_so_far : ℕ → Farm → ℕ → Shape
shape_so_far none f job = record { layers = map (layer_so_far none f.slots) (layers_of f.layers job) }

-- The groups of a depend, those of frames without slots too. Of these, the waiting ones stand at the number past all slots, and the targets at the one
-- after it: so no frame without a slot is its own target.
unfoldable pub groups_so_far : Farm → DependRow → List Group
groups_so_far f d =
    groups_by d.kind d.any (part_at d.waiter) (part_at d.target) (shape_so_far SLOT_LIMIT f d.waiter.job) (shape_so_far (SLOT_LIMIT + 1) f d.target.job)

abbrev pub groups_fit : Farm → DependRow → List Group → Bool
groups_fit f r groups = not (is_some (waits_for_itself groups)) && (nat_lt 0 (length groups) && nat_le (groups_left f + length groups) MOST_GROUPS)

-- of one that isn't satisfied the other end is there too, no waiting frame is its own target, and it has a group
abbrev pub unmet_fits : Farm → DependRow → Bool
unmet_fits f r = end_is_there f r.target && groups_fit f r (groups_so_far f r)

abbrev pub depend_fits : Farm → DependRow → Bool
depend_fits f r =
    is_between 1 (f.next_depend - 1) r.depend && (nat_lt (length f.depends) MOST_DEPENDS
    && (is_formed_depend r && (end_is_there f r.waiter && (r.met_all || unmet_fits f r))))

abbrev pub has_group : Farm → ℕ → DependRow → Bool
has_group f position d = not d.met_all && list_any (λ (g : Group). g.position == position) (groups_so_far f d)

abbrev pub met_fits : Farm → MetRow → Bool
met_fits f r = for_some (find (λ (d : DependRow). d.depend == r.depend) f.depends) (has_group f r.position)

-- ---- any row

-- the row, of a store of that format, fits the farm that those before it say; the first one is the farm's own
abbrev pub row_fits : ℕ → Farm → FarmRow → Bool
row_fits format f (row.Head r) = head_fits f r
row_fits format f (row.Show show r) = f.recorded && show_fits f show r
row_fits format f (row.Alloc alloc r) = f.recorded && alloc_fits f alloc r
row_fits format f (row.Sub r) = f.recorded && sub_fits f r
row_fits format f (row.Host host r) = f.recorded && host_fits f host r
row_fits format f (row.Job r) = f.recorded && job_fits f r
row_fits format f (row.Layer r) = f.recorded && layer_fits f r
row_fits format f (row.Frame r) = f.recorded && slot_fits f r
row_fits format f (row.Depend r) = f.recorded && depend_fits f r
row_fits format f (row.Met r) = f.recorded && met_fits f r
row_fits format f (row.Limit limit r) = f.recorded && limit_fits format f limit r

-- a kind and an id
abbrev pub StoredKey : Type 0
StoredKey = ℕ × ℕ

abbrev pub key_of : FarmRow → StoredKey
key_of r = (row_kind r, row_id r)

-- by kind, then id
abbrev pub is_before : StoredKey → StoredKey → Bool
is_before a b = nat_lt a.0 b.0 || (a.0 == b.0 && nat_lt a.1 b.1)

-- the row comes after the last one, where there is one
abbrev pub comes_after : Option StoredKey → StoredKey → Bool
comes_after None key = true
comes_after (Some last) key = is_before last key

-- ---- after the last row

abbrev pub first_job : (JobRow → Bool) → List JobRow → Option StoredKey
first_job test jobs = option_map (λ (j : JobRow). (6, j.job)) (find test jobs)

abbrev pub first_layer : (LayerRow → Bool) → List LayerRow → Option StoredKey
first_layer test layers = option_map (λ (l : LayerRow). (7, LAYER_IDS * l.job + l.place)) (find test layers)

abbrev pub first_depend : (DependRow → Bool) → List DependRow → Option StoredKey
first_depend test depends = option_map (λ (d : DependRow). (9, d.depend)) (find test depends)

-- the first slot that passes, counted from a place
abbrev pub first_slot : (ℕ → SlotRow → Bool) → ℕ → List SlotRow → Option StoredKey
first_slot test place [] = None
first_slot test place (s ∷ ss) = if test place s then Some (8, place) else first_slot test (place + 1) ss

-- the layer has a limit that isn't there
abbrev pub lacks_limit : Farm → LayerRow → Bool
lacks_limit f l = not (has_its_limit (length f.limits) l)

-- more finish than there are jobs
abbrev pub head_ends : Farm → Option StoredKey
head_ends f = if nat_le (f.next_finish + length (filter is_pending_job f.jobs)) f.next_job then None else Some (1, 0)

-- a pending job whose layers aren't all its frames
abbrev pub lacks_frames : Farm → JobRow → Bool
lacks_frames f j = is_pending_job j && not (frames_said (layers_of f.layers j.job) == j.frames)

-- a number of the layer has no frame, counted from a position
abbrev pub lacks_number : Farm → LayerRow → ℕ → List ℤ → Bool
lacks_number f l position [] = false
lacks_number f l position (n ∷ ns) = not (is_some (slot_from 0 (is_placed l.job l.place position) f.slots)) || lacks_number f l (position + 1) ns

abbrev pub lacks_slots : Farm → LayerRow → Bool
lacks_slots f l = lacks_number f l 0 (range_numbers l.range)

-- all groups are marked, or one isn't that is met by now
abbrev pub is_wrongly_marked : Farm → DependRow → Bool
is_wrongly_marked f d =
    not d.met_all && (list_all (is_met f d) (groups_of f d) || list_any (λ (g : Group). not (is_met f d g) && is_met_now f d g) (groups_of f d))

-- the first row at fault
abbrev pub end_fault : Farm → Option StoredKey
end_fault f =
    or_else (first_layer (lacks_limit f) f.layers) (or_else (head_ends f) (or_else (first_job (lacks_frames f) f.jobs) (or_else (first_layer (lacks_slots f) f.layers) (or_else (first_job (finishes f.slots) f.jobs)
    (or_else (first_depend (is_wrongly_marked f) f.depends) (or_else (first_slot (runs_unmet f) 0 f.slots) (first_slot (opens f) 0 f.slots)))))))

-- ---- all rows

-- a farm, and the format of the rows that say it
pub record Said : Type 0 where
  pub farm : Farm
  pub format : ℕ

abbrev pub ended : ℕ → Farm → Option StoredKey → Result Said StoredKey
ended format f None = Ok (record { farm = f; format = format })
ended format f (Some key) = Err key

-- the format of rows after one: the farm's own row says it
abbrev pub format_after : ℕ → FarmRow → ℕ
format_after format (row.Head r) = r.format
format_after format other = format

-- what rows say with those before them, which were of that format, or the key of the first one that doesn't come after the last or doesn't fit
abbrev pub farm_with : ℕ → Option StoredKey → Farm → List FarmRow → Result Said StoredKey
farm_with format last f [] = ended format f (end_fault f)
farm_with format last f (r ∷ rs) =
    if comes_after last (key_of r) && row_fits format f r then farm_with (format_after format r) (Some (key_of r)) (with_stored f r) rs else Err (key_of r)

-- the farm that rows say, and their format, or the key of the row at fault; no rows are of the format in which rows are written
abbrev pub farm_said : List FarmRow → Result Said StoredKey
farm_said rows = farm_with ROW_FORMAT None empty_farm rows
