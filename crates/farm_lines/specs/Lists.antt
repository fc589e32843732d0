-- What each list shows of a farm: its rows in order, and of these the ones from a place on. Lists speak of the records.
use Rattle.std.specs.Prelude.{ℕ, ◌+◌, ◌/◌, ◌%◌, Bool, true, false, List, [], ◌∷◌, map, filter, filter_map, flat_map, take, drop, length, sum_by, Option, None, Some, option_map, option_and_then, slice_get, Result, Ok, Err, if◌then◌else◌}
use Rattle.farm_types.specs.declared.attempt.ProcRow.{ProcRow}
use Rattle.farm_types.specs.declared.depend.DependRow.{DependRow}
use Rattle.farm_types.specs.declared.refusal.Refusal.{Refusal}
use Rattle.farm_types.specs.declared.rows.AllocRow.{AllocRow}
use Rattle.farm_types.specs.declared.rows.HostRow.{HostRow}
use Rattle.farm_types.specs.declared.rows.JobRow.{JobRow}
use Rattle.farm_types.specs.declared.rows.LayerRow.{LayerRow}
use Rattle.farm_types.specs.declared.rows.LimitRow.{LimitRow}
use Rattle.farm_types.specs.declared.rows.ShowRow.{ShowRow}
use Rattle.farm_types.specs.declared.rows.SubRow.{SubRow}
use Rattle.farm_types.specs.declared.slot_row.Frame.{Frame}
use Rattle.farm_types.specs.declared.slot_row.SlotRow.{SlotRow}
use Rattle.farm_types.specs.declared.states.FrameState.{FrameState}
use Rattle.farm_types.specs.declared.states.FrameState.TheVariants as frame_state
use Rattle.farm_types.specs.Booking.{is_pending, is_waiting}
use Rattle.farm_types.specs.DependActs.{is_running, job_missing, name_of_frame, pending_named}
use Rattle.farm_types.specs.Depends.{layer_shape}
use Rattle.farm_types.specs.Farm.{Farm, alloc_name, for_some, job_at, layers_of}
use Rattle.farm_types.specs.Finish.{count_where, has_succeeded, waits_by, was_eaten}
use Rattle.farm_types.specs.Names.{frame_name}
use Rattle.farm_types.specs.Settle.{is_blocked}
use Rattle.farm_types.specs.Step.{name_of_alloc}
use Rattle.farm_types.specs.Sums.{booked_in, running_in, used_cores, used_memory}
use Rattle.farm_lines.specs.declared.list_row.ListRow.{ListRow}
use Rattle.farm_lines.specs.declared.list_row.ListRow.TheVariants as row
use Rattle.farm_lines.specs.declared.query.Listed.{Listed}
use Rattle.farm_lines.specs.declared.query.Listed.TheVariants as listed
use Rattle.farm_lines.specs.declared.query.Query.{Query}
use Rattle.farm_lines.specs.declared.reply.ListReply.{ListReply}
use Rattle.farm_lines.specs.declared.limits.TheConstants.{ROWS_EACH}
use Rattle.farm_types.specs.declared.limits.TheConstants.{MOST_ALLOCS}

-- ---- names by numbers

abbrev pub name_of_show : Option ShowRow → List ℕ
name_of_show None = []
name_of_show (Some show) = show.name

abbrev pub show_name : Farm → ℕ → List ℕ
show_name f show = name_of_show (slice_get f.shows show)

-- an allocation's name: its facility, a point, and its tag
abbrev pub name_at_alloc : Farm → ℕ → List ℕ
name_at_alloc f alloc = name_of_alloc (slice_get f.allocs alloc)

abbrev pub name_of_host : Option HostRow → List ℕ
name_of_host None = []
name_of_host (Some host) = host.name

abbrev pub host_name : Farm → ℕ → List ℕ
host_name f host = name_of_host (slice_get f.hosts host)

abbrev pub name_of_job : Option JobRow → List ℕ
name_of_job None = []
name_of_job (Some j) = j.name

-- the name of a frame's job
abbrev pub job_of_frame : Farm → Option Frame → List ℕ
job_of_frame f frame = name_of_job (option_and_then (λ x. job_at f x.job) frame)

-- ---- shows, allocations and subscriptions

abbrev pub show_row : ShowRow → ListRow
show_row show = row.Name show.name

abbrev pub alloc_row : AllocRow → ListRow
alloc_row a = row.Name (alloc_name a.facility a.tag)

-- a subscription's number is made of those of its show and its allocation
abbrev pub sub_row : Farm → SubRow → ListRow
sub_row f s =
    row.Sub (record { alloc = name_at_alloc f (s.sub % MOST_ALLOCS); booked = booked_in f s.sub; burst = s.burst; show = show_name f (s.sub / MOST_ALLOCS); size = s.size })

-- ---- limits

-- limits numbered from a place
abbrev pub limit_row : Farm → ℕ → LimitRow → ListRow
limit_row f limit l = row.Limit (record { most = l.most; name = l.name; running = running_in f limit })

abbrev pub limit_rows : Farm → ℕ → List LimitRow → List ListRow
limit_rows f place [] = []
limit_rows f place (l ∷ ls) = limit_row f place l ∷ limit_rows f (place + 1) ls

abbrev pub name_of_limit : Option LimitRow → List ℕ
name_of_limit None = []
name_of_limit (Some l) = l.name

-- the name of a layer's limit, empty where it has none
abbrev pub limit_name : Farm → Option ℕ → List ℕ
limit_name f limit = name_of_limit (option_and_then (slice_get f.limits) limit)

-- ---- hosts

-- the host of that number
abbrev pub host_row : Farm → ℕ → HostRow → ListRow
host_row f host h =
    row.Host (record {
      alloc = name_at_alloc f h.alloc;
      boot = h.boot;
      cores = h.cores;
      heard = h.heard;
      lock = h.lock;
      memory = h.memory;
      name = h.name;
      state = h.state;
      used_cores = used_cores f host;
      used_memory = used_memory f host;
    })

-- hosts numbered from a place
abbrev pub host_rows : Farm → ℕ → List HostRow → List ListRow
host_rows f place [] = []
host_rows f place (h ∷ hs) = host_row f place h ∷ host_rows f (place + 1) hs

-- ---- jobs

abbrev pub is_dead : FrameState → Bool
is_dead frame_state.Dead = true
is_dead other = false

-- the number that a job shows: how many of a pending one's frames are in a state of these; a finished one has no frames left, and this
-- number is kept of it
abbrev pub shown_count : Farm → JobRow → (FrameState → Bool) → ℕ → ℕ
shown_count f j test kept = if is_pending j.state then count_where j.job test f.slots else kept

abbrev pub job_row : Farm → JobRow → ListRow
job_row f j =
    row.Job (record {
      dead = shown_count f j is_dead 0;
      depend = shown_count f j is_blocked 0;
      eaten = shown_count f j was_eaten j.eaten;
      name = j.name;
      paused = j.paused;
      priority = j.priority;
      running = shown_count f j is_running 0;
      show = show_name f j.show;
      state = j.state;
      succeeded = shown_count f j has_succeeded j.succeeded;
      waiting = shown_count f j is_waiting 0;
    })

-- ---- the layers and the frames of a job

-- the slots of a layer's frames, in range order
abbrev pub slots_in : Farm → LayerRow → List SlotRow
slots_in f l = filter_map (slice_get f.slots) (layer_shape f.slots l).slots

-- how many of these frames are in a state of these
abbrev pub count_among : (FrameState → Bool) → List SlotRow → ℕ
count_among test slots = sum_by (λ (s : SlotRow). if for_some s.frame (λ (x : Frame). test x.state) then 1 else 0) slots

-- with its limit's name
abbrev pub layer_with : List ℕ → LayerRow → List SlotRow → ListRow
layer_with limit l slots =
    row.Layer (record {
      cores = l.cores;
      dead = count_among is_dead slots;
      depend = count_among is_blocked slots;
      eaten = count_among was_eaten slots;
      limit = limit;
      memory = l.memory;
      name = l.name;
      range = l.range;
      running = count_among is_running slots;
      succeeded = count_among has_succeeded slots;
      waiting = count_among is_waiting slots;
    })

abbrev pub layer_row : Farm → LayerRow → ListRow
layer_row f l = layer_with (limit_name f l.limit) l (slots_in f l)

abbrev pub layer_rows : Farm → ℕ → List ListRow
layer_rows f job = map (layer_row f) (layers_of f.layers job)

-- the frame in a slot, of the layer of that name
abbrev pub frame_row : List ℕ → SlotRow → Option ListRow
frame_row layer s =
    option_map (λ (x : Frame). row.Frame (record { frame = frame_name x.number layer; retries = x.retries; state = x.state; version = s.version })) s.frame

abbrev pub frames_in : Farm → LayerRow → List ListRow
frames_in f l = filter_map (frame_row l.name) (slots_in f l)

-- layer by layer, each in range order
abbrev pub frame_rows : Farm → ℕ → List ListRow
frame_rows f job = flat_map (frames_in f) (layers_of f.layers job)

-- ---- depends

abbrev pub depend_row : DependRow → ListRow
depend_row d = row.Depend (record { depend = d.depend; kind = d.kind; satisfied = d.met_all })

-- the depends in which the job waits
abbrev pub depend_rows : Farm → ℕ → List ListRow
depend_rows f job = map depend_row (filter (waits_by job) f.depends)

-- ---- live attempts

abbrev pub proc_row : Farm → Option Frame → ProcRow → ListRow
proc_row f frame p =
    row.Proc (record {
      cores = p.cores;
      frame = name_of_frame f frame;
      host = host_name f p.host;
      job = job_of_frame f frame;
      memory = p.memory;
      slot = p.slot;
      version = p.version;
    })

abbrev pub proc_in : Farm → SlotRow → Option ListRow
proc_in f s = option_map (proc_row f s.frame) s.proc

-- by slot
abbrev pub proc_rows : Farm → List ListRow
proc_rows f = filter_map (proc_in f) f.slots

-- ---- a list

-- a list of the pending job of that name; a finished one is refused as such, and no other job is there
abbrev pub of_job : Farm → List ℕ → (ℕ → List ListRow) → Option JobRow → Result (List ListRow) Refusal
of_job f name rows None = Err (job_missing f name)
of_job f name rows (Some j) = Ok (rows j.job)

-- all rows of a list, or its refusal
abbrev pub rows_listed : Farm → Listed → Result (List ListRow) Refusal
rows_listed f listed.Shows = Ok (map show_row f.shows)
rows_listed f listed.Allocs = Ok (map alloc_row f.allocs)
rows_listed f listed.Subs = Ok (map (sub_row f) f.subs)
rows_listed f listed.Limits = Ok (limit_rows f 0 f.limits)
rows_listed f listed.Hosts = Ok (host_rows f 0 f.hosts)
rows_listed f listed.Jobs = Ok (map (job_row f) f.jobs)
rows_listed f (listed.Layers job) = of_job f job (layer_rows f) (pending_named f job)
rows_listed f (listed.Frames job) = of_job f job (frame_rows f) (pending_named f job)
rows_listed f (listed.Depends job) = of_job f job (depend_rows f) (pending_named f job)
rows_listed f listed.Procs = Ok (proc_rows f)

-- at most so many rows, from a place on, and how many there are in all
abbrev pub page_of : ℕ → List ListRow → ListReply
page_of from rows = record { rows = take ROWS_EACH (drop from rows); total = length rows }

abbrev pub paged : ℕ → Result (List ListRow) Refusal → Result ListReply Refusal
paged from (Ok rows) = Ok (page_of from rows)
paged from (Err why) = Err why

-- the page that a query asks for, or why there is none
unfoldable pub page_listed : Farm → Query → Result ListReply Refusal
page_listed f query = paged query.from (rows_listed f query.what)
