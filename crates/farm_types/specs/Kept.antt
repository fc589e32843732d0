-- What every farm of the program keeps: each legal run from the empty farm, or from a farm that keeps it, does.
use Rattle.std.specs.Prelude.{ℕ, ℤ, pos, negsuc, int_le, ◌≡◌, ◌≤◌, ◌<◌, ◌==◌, ◌&&◌, ◌||◌, ◌+◌, ◌*◌, ◌^◌, ◌/◌, ◌%◌, Bool, true, false, not, List, [], ◌∷◌, length, map, filter, sum_by, find, is_none, is_some, slice_get, nat_le, nat_lt, bytes_eq, nat_eq, Option, None, Some, if◌then◌else◌}
use Rattle.std.specs.List.{IsDistinct, list_all}
use Rattle.std.specs.Ordering.{int_eq}
use Rattle.farm_types.specs.declared.attempt.ProcRow.{ProcRow}
use Rattle.farm_types.specs.declared.depend.DependEnd.{DependEnd}
use Rattle.farm_types.specs.declared.depend.DependRow.{DependRow}
use Rattle.farm_types.specs.declared.rows.AllocRow.{AllocRow}
use Rattle.farm_types.specs.declared.rows.HostRow.{HostRow}
use Rattle.farm_types.specs.declared.rows.JobRow.{JobRow}
use Rattle.farm_types.specs.declared.rows.LayerRow.{LayerRow}
use Rattle.farm_types.specs.declared.rows.LimitRow.{LimitRow}
use Rattle.farm_types.specs.declared.rows.ShowRow.{ShowRow}
use Rattle.farm_types.specs.declared.rows.SubRow.{SubRow}
use Rattle.farm_types.specs.declared.slot_row.Frame.{Frame}
use Rattle.farm_types.specs.declared.slot_row.SlotRow.{SlotRow}
use Rattle.farm_types.specs.declared.states.FrameState.{FrameState}
use Rattle.farm_types.specs.declared.states.FrameState.TheVariants as frame_state
use Rattle.farm_types.specs.Booking.{is_pending, is_up, is_waiting}
use Rattle.farm_types.specs.DependActs.{has_number, is_running, waits_for_itself}
use Rattle.farm_types.specs.Depends.{groups_left, groups_of, is_open}
use Rattle.farm_types.specs.Farm.{Farm, empty_farm, for_any, for_some, alloc_name, sub_of, is_placed, layer_in, slot_from, layers_of}
use Rattle.farm_types.specs.Finish.{finishes, is_finished}
use Rattle.farm_types.specs.Formed.{is_layer_name, names_frame, names_layer, names_target_frame, names_target_layer}
use Rattle.farm_types.specs.Forms.{is_between, is_command_text, is_name_or_empty, is_name_text, is_tag_text}
use Rattle.farm_types.specs.Jobs.{JobLists}
use Rattle.farm_types.specs.Ranges.{is_range_text, range_numbers}
use Rattle.farm_types.specs.Rising.{IsRising, depend_key, job_key, layer_key, sub_key}
use Rattle.farm_types.specs.Run.{IsSound}
use Rattle.farm_types.specs.Settle.{opens, with_met}
use Rattle.farm_types.specs.Step.{lists_of}
use Rattle.farm_types.specs.declared.limits.TheConstants.{LAST_BOOT, LAST_DEPEND, LAST_JOB, LAST_VERSION, LEAST_CORES, LEAST_MEMORY, MOST_ALLOCS, MOST_BURST, MOST_COMMAND, MOST_CORES, MOST_DEPENDS, MOST_FINISHED, MOST_FRAMES, MOST_GROUPS, MOST_HOSTS, MOST_LAYERS, MOST_LIMITS, MOST_MEMORY, MOST_PRIORITY, MOST_RETRIES, MOST_RUNNING, MOST_SHOWS, MOST_TAGS, SLOT_LIMIT, SUB_NUMBERS}

-- no name stands twice
abbrev pub AllDiffer : {X : Type 0} → (X → List ℕ) → List X → Type 0
AllDiffer name xs = IsDistinct bytes_eq (map name xs)

-- ---- shows and allocations

abbrev pub show_label : ShowRow → List ℕ
show_label row = row.name

abbrev pub is_formed_show : ShowRow → Bool
is_formed_show row = is_name_text row.name

pub record KeepsShows (shows : List ShowRow) : Type 0 where
  pub count : length shows ≤ MOST_SHOWS
  pub differ : AllDiffer show_label shows
  pub formed : list_all is_formed_show shows ≡ true

abbrev pub alloc_label : AllocRow → List ℕ
alloc_label row = alloc_name row.facility row.tag

abbrev pub is_formed_alloc : AllocRow → Bool
is_formed_alloc row = is_tag_text row.facility && is_tag_text row.tag

pub record KeepsAllocs (allocs : List AllocRow) : Type 0 where
  pub count : length allocs ≤ MOST_ALLOCS
  pub differ : AllDiffer alloc_label allocs
  pub formed : list_all is_formed_alloc allocs ≡ true

-- ---- subscriptions

-- the subscription's show and allocation are among so many, and its size and burst are within the greatest
abbrev pub is_kept_sub : ℕ → ℕ → SubRow → Bool
is_kept_sub shows allocs s = nat_lt (s.sub / MOST_ALLOCS) shows && (nat_lt (s.sub % MOST_ALLOCS) allocs && (nat_le s.size MOST_BURST && nat_le s.burst MOST_BURST))

-- subscriptions of so many shows and allocations, in the order of their numbers
pub record KeepsSubs (subs : List SubRow) (shows allocs : ℕ) : Type 0 where
  pub rise : IsRising sub_key 0 subs SUB_NUMBERS
  pub each : list_all (is_kept_sub shows allocs) subs ≡ true

-- ---- limits

abbrev pub limit_label : LimitRow → List ℕ
limit_label row = row.name

abbrev pub is_formed_limit : LimitRow → Bool
is_formed_limit row = is_name_text row.name && nat_le row.most MOST_RUNNING

-- the layer has no limit, or one of so many
abbrev pub has_its_limit : ℕ → LayerRow → Bool
has_its_limit limits l = for_any l.limit (λ limit. nat_lt limit limits)

-- limits, and layers that have them
pub record KeepsLimits (limits : List LimitRow) (layers : List LayerRow) : Type 0 where
  pub count : length limits ≤ MOST_LIMITS
  pub differ : AllDiffer limit_label limits
  pub formed : list_all is_formed_limit limits ≡ true
  pub there : list_all (has_its_limit (length limits)) layers ≡ true

-- ---- hosts

abbrev pub host_label : HostRow → List ℕ
host_label row = row.name

-- at most so many tags, each of its form
abbrev pub are_tags : ℕ → List (List ℕ) → Bool
are_tags least tags = is_between least MOST_TAGS (length tags) && list_all is_tag_text tags

abbrev pub is_formed_host : HostRow → Bool
is_formed_host row =
    is_name_text row.name && (are_tags 0 row.tags && (is_between LEAST_CORES MOST_CORES row.cores && (is_between LEAST_MEMORY MOST_MEMORY row.memory
    && (is_between 1 LAST_BOOT row.boot && (nat_lt row.nonce (2 ^ 64) && nat_lt row.seq (2 ^ 64))))))

-- hosts of so many allocations, each heard at the moment or before it
pub record KeepsHosts (hosts : List HostRow) (allocs moment : ℕ) : Type 0 where
  pub count : length hosts ≤ MOST_HOSTS
  pub differ : AllDiffer host_label hosts
  pub formed : list_all is_formed_host hosts ≡ true
  pub allocated : list_all (λ (row : HostRow). nat_lt row.alloc allocs) hosts ≡ true
  pub heard : list_all (λ (row : HostRow). nat_le row.heard moment) hosts ≡ true

-- ---- jobs, layers and frames

abbrev pub job_label : JobRow → List ℕ
job_label j = j.name

abbrev pub is_pending_job : JobRow → Bool
is_pending_job j = is_pending j.state

-- a job of so many shows, within its forms and limits
abbrev pub is_formed_job : ℕ → JobRow → Bool
is_formed_job shows j =
    is_name_text j.name && (nat_lt j.show shows && (is_tag_text j.facility && (is_name_or_empty j.shot && (is_name_or_empty j.user
    && (is_between 1 MOST_PRIORITY j.priority && (nat_le j.max_retries MOST_RETRIES && is_between 1 MOST_FRAMES j.frames))))))

abbrev pub is_formed_layer : LayerRow → Bool
is_formed_layer l =
    is_name_text l.name && (nat_lt l.place MOST_LAYERS && (is_range_text l.range && (is_between 1 MOST_COMMAND (length l.command) && (is_command_text l.command
    && (is_between LEAST_CORES MOST_CORES l.cores && (is_between LEAST_MEMORY MOST_MEMORY l.memory && are_tags 1 l.tags))))))

abbrev pub layer_label : LayerRow → List ℕ
layer_label l = l.name

-- how many frames the layers' ranges say
abbrev pub frames_said : List LayerRow → ℕ
frames_said layers = sum_by (λ (l : LayerRow). length (range_numbers l.range)) layers

-- the layers are those at the places from this one on
abbrev pub AreAtPlaces : ℕ → List LayerRow → Type 0
AreAtPlaces place [] = Unit {0}
AreAtPlaces place (l ∷ ls) = (l.place ≡ place) × AreAtPlaces (place + 1) ls

-- a pending job has its layers, of names that differ, and as many frames as their ranges say
pub record HasItsLayers (layers : List LayerRow) (j : JobRow) : Type 0 where
  pub places : AreAtPlaces 0 (layers_of layers j.job)
  pub differ : AllDiffer layer_label (layers_of layers j.job)
  pub frames : frames_said (layers_of layers j.job) ≡ j.frames

-- the job of that number is there and pending
abbrev pub is_of_pending : List JobRow → ℕ → Bool
is_of_pending jobs job = for_some (find (λ j. j.job == job) jobs) is_pending_job

abbrev pub is_setup : FrameState → Bool
is_setup frame_state.Setup = true
is_setup other = false

-- the frame has the number at its position in its layer's range, its retries are within the most, and no booking of it is half done
abbrev pub is_kept_frame : List LayerRow → Frame → Bool
is_kept_frame layers x =
    for_some (layer_in layers x.job x.layer) (λ l. for_some (slice_get (range_numbers l.range) x.position) (λ number. int_eq number x.number))
    && (nat_le x.retries MOST_RETRIES && not (is_setup x.state))

abbrev pub is_kept_slot : List LayerRow → SlotRow → Bool
is_kept_slot layers s = nat_le s.version LAST_VERSION && for_any s.frame (is_kept_frame layers)

-- two frames at one position of one layer
abbrev pub is_same_place : Frame → Frame → Bool
is_same_place x y = is_placed x.job x.layer x.position y

-- each frame stands in one slot
abbrev pub EachOnce : List SlotRow → Type 0
EachOnce slots =
    (i k : ℕ) (s t : SlotRow) (x y : Frame) → slice_get slots i ≡ Some s → s.frame ≡ Some x → slice_get slots k ≡ Some t → t.frame ≡ Some y → is_same_place x y ≡ true → i ≡ k

-- each number of each layer's range has its frame
abbrev pub EachThere : List LayerRow → List SlotRow → Type 0
EachThere layers slots =
    (n : ℕ) (l : LayerRow) → slice_get layers n ≡ Some l → (position : ℕ) → position < length (range_numbers l.range) → is_some (slot_from 0 (is_placed l.job l.place position) slots) ≡ true

-- the slot was used: it has a frame or a version
abbrev pub is_used : SlotRow → Bool
is_used s = is_some s.frame || nat_lt 0 s.version

-- the list is empty, or its last slot was used
abbrev pub EndsUsed : List SlotRow → Type 0
EndsUsed [] = Unit {0}
EndsUsed (s ∷ []) = is_used s ≡ true
EndsUsed (s ∷ (t ∷ ts)) = EndsUsed (t ∷ ts)

-- a pending job has no finishing number, and a finished one has one below the next
abbrev pub has_its_finish : ℕ → JobRow → Bool
has_its_finish next j = if is_pending j.state then j.finish == 0 else nat_lt 0 j.finish && nat_lt j.finish next

abbrev pub finish_of : JobRow → ℕ
finish_of j = j.finish

-- a pending job has no counts, and of a finished one each frame was eaten or succeeded
abbrev pub has_its_counts : JobRow → Bool
has_its_counts j = if is_pending j.state then j.eaten == 0 && j.succeeded == 0 else j.eaten + j.succeeded == j.frames

-- the jobs of so many shows with their layers and frames
pub record KeepsJobs (b : JobLists) (shows : ℕ) : Type 0 where
  pub next_within : b.next_job ≤ LAST_JOB + 1
  pub finish_from : 1 ≤ b.next_finish
  pub finish_within : b.next_finish + length (filter is_pending_job b.jobs) ≤ b.next_job
  pub finished_count : length (filter is_finished b.jobs) ≤ MOST_FINISHED
  pub finishes_within : list_all (has_its_finish b.next_finish) b.jobs ≡ true
  pub finishes_differ : IsDistinct nat_eq (map finish_of (filter is_finished b.jobs))
  pub jobs_counted : list_all has_its_counts b.jobs ≡ true
  pub jobs_rise : IsRising job_key 1 b.jobs b.next_job
  pub jobs_formed : list_all (is_formed_job shows) b.jobs ≡ true
  pub jobs_differ : AllDiffer job_label b.jobs
  pub jobs_layered : (n : ℕ) (j : JobRow) → slice_get b.jobs n ≡ Some j → is_pending_job j ≡ true → HasItsLayers b.layers j
  pub layers_rise : IsRising layer_key 0 b.layers (MOST_LAYERS * b.next_job)
  pub layers_formed : list_all is_formed_layer b.layers ≡ true
  pub layers_owned : list_all (λ (l : LayerRow). is_of_pending b.jobs l.job) b.layers ≡ true
  pub slot_count : length b.slots ≤ SLOT_LIMIT
  pub slots_kept : list_all (is_kept_slot b.layers) b.slots ≡ true
  pub frames_once : EachOnce b.slots
  pub frames_there : EachThere b.layers b.slots
  pub ends_used : EndsUsed b.slots

-- ---- live attempts

-- the attempt's host is there and up, in that boot
abbrev pub is_on_host : List HostRow → ProcRow → Bool
is_on_host hosts p = for_some (slice_get hosts p.host) (λ row. is_up row.state && row.boot == p.boot)

-- it has its layer's amounts
abbrev pub has_amounts : List LayerRow → Frame → ProcRow → Bool
has_amounts layers x p = for_some (layer_in layers x.job x.layer) (λ l. p.cores == l.cores && p.memory == l.memory)

-- its subscription is that of its job's show and its host's allocation
abbrev pub has_sub : List JobRow → List HostRow → Frame → ProcRow → Bool
has_sub jobs hosts x p = for_some (find (λ j. j.job == x.job) jobs) (λ j. for_some (slice_get hosts p.host) (λ row. p.sub == sub_of j.show row.alloc))

-- its subscription is there
abbrev pub is_subscribed : List SubRow → ProcRow → Bool
is_subscribed subs p = is_some (find (λ s. s.sub == p.sub) subs)

-- what a test says of the slot's frame and live attempt, and true where it hasn't both
abbrev pub for_both : SlotRow → (Frame → ProcRow → Bool) → Bool
for_both s test = for_any s.frame (λ x. for_any s.proc (test x))

pub record KeepsAttempts (f : Farm) : Type 0 where
  pub hosted : list_all (λ (s : SlotRow). for_any s.proc (is_on_host f.hosts)) f.slots ≡ true
  pub measured : list_all (λ (s : SlotRow). for_both s (has_amounts f.layers)) f.slots ≡ true
  pub billed : list_all (λ (s : SlotRow). for_both s (has_sub f.jobs f.hosts)) f.slots ≡ true
  pub subscribed : list_all (λ (s : SlotRow). for_any s.proc (is_subscribed f.subs)) f.slots ≡ true
  pub since : list_all (λ (s : SlotRow). for_any s.proc (λ (p : ProcRow). nat_le p.since f.moment)) f.slots ≡ true
  pub versioned : list_all (λ (s : SlotRow). for_any s.proc (λ (p : ProcRow). nat_lt 0 p.version)) f.slots ≡ true

-- ---- rows but for depends

-- A group of facts for each kind of row. Where an act leaves the rows that a group speaks of as they are, it keeps the group.
pub record KeepsRows (f : Farm) : Type 0 where
  pub moment_within : f.moment < 2 ^ 64
  pub shows : KeepsShows f.shows
  pub allocs : KeepsAllocs f.allocs
  pub subs : KeepsSubs f.subs (length f.shows) (length f.allocs)
  pub limits : KeepsLimits f.limits f.layers
  pub hosts : KeepsHosts f.hosts (length f.allocs) f.moment
  pub jobs : KeepsJobs (lists_of f) (length f.shows)
  pub attempts : KeepsAttempts f
  pub sound : IsSound f

-- ---- depends

-- the layer is there, and has the frame, where one is named
abbrev pub has_frame_in : Option ℤ → LayerRow → Bool
has_frame_in None l = true
has_frame_in (Some number) l = has_number number l

abbrev pub has_part : List LayerRow → Option (List ℕ) → Option ℤ → Bool
has_part layers None frame = true
has_part layers (Some name) frame = for_some (find (λ (l : LayerRow). bytes_eq l.name name) layers) (has_frame_in frame)

-- the end's job is pending, and has what is named
abbrev pub is_end_there : Farm → DependEnd → Bool
is_end_there f e = is_of_pending f.jobs e.job && has_part (layers_of f.layers e.job) e.layer e.frame

-- the waiting end of a depend is there, and so is the other end of one that isn't satisfied
abbrev pub is_kept_depend : Farm → DependRow → Bool
is_kept_depend f d = is_end_there f d.waiter && (d.met_all || is_end_there f d.target)

-- there is something exactly where the flag says so
abbrev pub is_given : {X : Type 0} → Bool → Option X → Bool
is_given true part = is_some part
is_given false part = not (is_some part)

-- a number of 32 bits with a sign, where there is one
abbrev pub is_number_named : Option ℤ → Bool
is_number_named None = true
is_number_named (Some number) = int_le (negsuc 2147483647) number && int_le number (pos 2147483647)

-- An end of a job's number, that names a layer and a frame where its depend's kind does. The frame's number may be any of its type: that a layer has it is
-- asked of an end that has to be there.
abbrev pub is_formed_end : Bool → Bool → DependEnd → Bool
is_formed_end layered framed e =
    is_between 1 LAST_JOB e.job && (is_given layered e.layer && (is_layer_name e.layer && (is_given framed e.frame && is_number_named e.frame)))

abbrev pub is_formed_depend : DependRow → Bool
is_formed_depend d =
    is_formed_end (names_layer d.kind) (names_frame d.kind) d.waiter && is_formed_end (names_target_layer d.kind) (names_target_frame d.kind) d.target

-- in a depend that isn't satisfied no frame waits for itself
abbrev pub has_no_self_depend : Farm → DependRow → Bool
has_no_self_depend f d = d.met_all || is_none (waits_for_itself (groups_of f d))

-- the slot's frame waits or runs, and isn't open
abbrev pub runs_unmet : Farm → ℕ → SlotRow → Bool
runs_unmet f slot s = for_some s.frame (λ x. is_waiting x.state || is_running x.state) && not (is_open f slot)

-- Depends in the order of their numbers, within their limits and forms, with their ends, and none in which a frame waits for itself. Exactly what is met is
-- marked, no blocked frame is open, and each frame that waits or runs is.
pub record KeepsDepends (f : Farm) : Type 0 where
  pub next_within : f.next_depend ≤ LAST_DEPEND + 1
  pub rise : IsRising depend_key 1 f.depends f.next_depend
  pub count : length f.depends ≤ MOST_DEPENDS
  pub groups_within : groups_left f ≤ MOST_GROUPS
  pub formed : list_all is_formed_depend f.depends ≡ true
  pub ends_there : list_all (is_kept_depend f) f.depends ≡ true
  pub no_self_depends : list_all (has_no_self_depend f) f.depends ≡ true
  pub met : with_met f ≡ f
  pub blocked : (slot : ℕ) (s : SlotRow) → slice_get f.slots slot ≡ Some s → opens f slot s ≡ false
  pub free_to_run : (slot : ℕ) (s : SlotRow) → slice_get f.slots slot ≡ Some s → runs_unmet f slot s ≡ false

-- ---- jobs that go on

-- each pending job has a frame that isn't done
abbrev pub KeepsWork : Farm → Type 0
KeepsWork f = list_all (λ (j : JobRow). not (finishes f.slots j)) f.jobs ≡ true

-- ---- the farm that no entry has made

-- an entry made the farm, or it is the empty one
abbrev pub KeepsRecord : Farm → Type 0
KeepsRecord f = f.recorded ≡ false → f ≡ empty_farm

-- ---- the farm

pub record IsKeptFarm (f : Farm) : Type 0 where
  pub rows : KeepsRows f
  pub depends : KeepsDepends f
  pub work : KeepsWork f
  pub record_kept : KeepsRecord f
