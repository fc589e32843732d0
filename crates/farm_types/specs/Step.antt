-- What an entry does to the farm, and when the farm refuses it.
use Rattle.std.specs.Prelude.{ℕ, ◌==◌, ◌&&◌, ◌||◌, ◌+◌, ◌≡◌, List, [], ◌∷◌, ◌++◌, map, filter, max, length, Bool, true, false, Option, None, Some, option_map, is_some, slice_get, nat_lt, if◌then◌else◌}
use Rattle.std.specs.Prelude.{option_and_then}
use Rattle.farm_types.specs.declared.attempt.DoneItem.{DoneItem}
use Rattle.farm_types.specs.declared.attempt.Exit.{Exit}
use Rattle.farm_types.specs.declared.attempt.ProcRow.{ProcRow}
use Rattle.farm_types.specs.declared.boot.BootLine.{BootLine}
use Rattle.farm_types.specs.declared.entry.Entry.{Entry}
use Rattle.farm_types.specs.declared.entry.Act.{Act}
use Rattle.farm_types.specs.declared.entry.Act.TheVariants as act
use Rattle.farm_types.specs.declared.entry.HeardAct.{HeardAct}
use Rattle.farm_types.specs.declared.refusal.Counted.{Counted}
use Rattle.farm_types.specs.declared.refusal.Counted.TheVariants as counted
use Rattle.farm_types.specs.declared.refusal.Refusal.{Refusal}
use Rattle.farm_types.specs.declared.refusal.Refusal.TheVariants.{Unknown, Exists, WrongBoot, Stale, Full}
use Rattle.farm_types.specs.declared.job.JobSpec.{JobSpec}
use Rattle.farm_types.specs.declared.rows.AllocRow.{AllocRow}
use Rattle.farm_types.specs.declared.rows.HostRow.{HostRow}
use Rattle.farm_types.specs.declared.rows.JobRow.{JobRow}
use Rattle.farm_types.specs.declared.rows.LayerRow.{LayerRow}
use Rattle.farm_types.specs.declared.rows.LimitRow.{LimitRow}
use Rattle.farm_types.specs.declared.rows.SubRow.{SubRow}
use Rattle.farm_types.specs.declared.job.LayerSpec.{LayerSpec}
use Rattle.farm_types.specs.declared.slot_row.Frame.{Frame}
use Rattle.farm_types.specs.declared.slot_row.SlotRow.{SlotRow}
use Rattle.farm_types.specs.declared.states.FrameState.TheVariants as frame_state
use Rattle.farm_types.specs.declared.states.LockState.{LockState}
use Rattle.farm_types.specs.declared.sub_line.SubLine.{SubLine}
use Rattle.farm_types.specs.declared.verdict.Verdict.{Verdict}
use Rattle.farm_types.specs.declared.verdict.Verdict.TheVariants as verdict
use Rattle.farm_types.specs.Farm.{Farm, for_some, changed_at, job_at, layer_at, sub_of, host_named, limit_from, limit_named, show_named, has_facility, alloc_name, alloc_named}
use Rattle.farm_types.specs.Verdict.{verdict_of}
use Rattle.farm_types.specs.Booking.{may_record}
use Rattle.farm_types.specs.DependActs.{after_depend, depend_at, depend_refusal, depends_refusal, drop_refusal, dropped, or_else, pending_named, with_depends}
use Rattle.farm_types.specs.Finish.{finishes, marks_of, with_finished, without_waiter}
use Rattle.farm_types.specs.Operators.{frame_act_refusal, job_there_refusal, may_eat, may_kill, retried_row, retry_refusal, stopped_row, with_frame, with_killed, with_paused}
use Rattle.farm_types.specs.Settle.{kept_version, settle, with_blocked}
use Rattle.farm_types.specs.Hosts.{heard_row, reopened_row, locked_row, is_unheard, silenced, is_same_life, booted}
use Rattle.farm_types.specs.Jobs.{JobLists, with_job, job_refusal}
use Rattle.farm_types.specs.Lost.{lose_on}
use Rattle.farm_types.specs.Subs.{with_sub}
use Rattle.farm_types.specs.declared.limits.TheConstants.{LAST_BOOT, MOST_ALLOCS, MOST_HOSTS, MOST_LIMITS, MOST_SHOWS}

-- ---- refusals

-- nothing where one more may come
abbrev pub full_refusal : ℕ → ℕ → Counted → Option Refusal
full_refusal limit count what = if nat_lt count limit then None else Some (Full limit what)

-- the name is new, and one more may come
abbrev pub new_refusal : List ℕ → Bool → Option Refusal → Option Refusal
new_refusal name there full = if there then Some (Exists name) else full

abbrev pub show_refusal : Farm → List ℕ → Option Refusal
show_refusal f name = new_refusal name (is_some (show_named f name)) (full_refusal MOST_SHOWS (length f.shows) counted.Shows)

abbrev pub alloc_refusal : Farm → List ℕ → Option Refusal
alloc_refusal f name = new_refusal name (is_some (alloc_named f name)) (full_refusal MOST_ALLOCS (length f.allocs) counted.Allocs)

-- a limit of a new name finds room
abbrev pub limit_refusal : Farm → Option ℕ → Option Refusal
limit_refusal f None = full_refusal MOST_LIMITS (length f.limits) counted.Limits
limit_refusal f (Some limit) = None

-- a thing of that name is there
abbrev pub name_refusal : List ℕ → Option ℕ → Option Refusal
name_refusal name None = Some (Unknown name)
name_refusal name (Some number) = None

-- the show of the subscription is there, then its allocation
abbrev pub sub_refusal : Farm → SubLine → Option ℕ → Option Refusal
sub_refusal f line None = Some (Unknown line.show)
sub_refusal f line (Some show) = name_refusal line.alloc (alloc_named f line.alloc)

-- the name of the allocation of that number
abbrev pub name_of_alloc : Option AllocRow → List ℕ
name_of_alloc None = []
name_of_alloc (Some row) = alloc_name row.facility row.tag

-- the host that boots is of that allocation, and there is a boot number for a new life
abbrev pub life_refusal : Farm → BootLine → ℕ → Option HostRow → Option Refusal
life_refusal f line alloc None = None
life_refusal f line alloc (Some row) =
    if row.alloc == alloc then (if is_same_life line row then None else full_refusal LAST_BOOT row.boot counted.Boots)
    else Some (Exists (name_of_alloc (slice_get f.allocs row.alloc)))

abbrev pub boot_at : Farm → BootLine → ℕ → Option ℕ → Option Refusal
boot_at f line alloc None = full_refusal MOST_HOSTS (length f.hosts) counted.Hosts
boot_at f line alloc (Some host) = life_refusal f line alloc (slice_get f.hosts host)

-- the boot's allocation is there; a host that is there is of that allocation; and there is room for a host or a boot number more
abbrev pub boot_refusal : Farm → BootLine → Option ℕ → Option Refusal
boot_refusal f line None = Some (Unknown line.alloc)
boot_refusal f line (Some alloc) = boot_at f line alloc (host_named f line.host)

-- the host's boot number is the report's, and the report's sequence number is above the last one
abbrev pub row_refusal : List ℕ → ℕ → ℕ → Option HostRow → Option Refusal
row_refusal name boot seq None = Some (Unknown name)
row_refusal name boot seq (Some row) = if row.boot == boot then (if nat_lt row.seq seq then None else Some (Stale row.seq)) else Some (WrongBoot row.boot)

abbrev pub host_refusal : Farm → HeardAct → Option ℕ → Option Refusal
host_refusal f act None = Some (Unknown act.host)
host_refusal f act (Some host) = row_refusal act.host act.boot act.seq (slice_get f.hosts host)

-- the farm's jobs, layers and slots, and the farm with others
abbrev pub lists_of : Farm → JobLists
lists_of f = record { jobs = f.jobs; layers = f.layers; slots = f.slots; next_job = f.next_job; next_finish = f.next_finish }

abbrev pub with_lists : Farm → JobLists → Farm
with_lists f b = record f { jobs = b.jobs; layers = b.layers; slots = b.slots; next_job = b.next_job; next_finish = b.next_finish }

-- the first name of a limit that isn't there; a layer without a limit names none
abbrev pub unknown_limit : List LimitRow → List LayerSpec → Option (List ℕ)
unknown_limit limits [] = None
unknown_limit limits (l ∷ ls) = if length l.limit == 0 || is_some (limit_from 0 l.limit limits) then unknown_limit limits ls else Some l.limit

abbrev pub limits_refusal : Farm → JobSpec → Option (List ℕ) → Option Refusal
limits_refusal f spec None = job_refusal (lists_of f) spec
limits_refusal f spec (Some name) = Some (Unknown name)

-- the job's show is there, then its facility, then its layers' limits; then its names are new, and there is room for its frames
abbrev pub submit_refusal : Farm → JobSpec → Option ℕ → Option Refusal
submit_refusal f spec None = Some (Unknown spec.show)
submit_refusal f spec (Some show) =
    if has_facility f spec.facility then limits_refusal f spec (unknown_limit f.limits spec.layers) else Some (Unknown spec.facility)

-- the first refusal that the farm gives of hosts, shows, allocations, subscriptions, limits and jobs, or none
abbrev pub act_refusal : Farm → Act → Option Refusal
act_refusal f act.Opened = None
act_refusal f (act.Show name) = show_refusal f name
act_refusal f (act.Alloc facility tag) = alloc_refusal f (alloc_name facility tag)
act_refusal f (act.Sub line) = sub_refusal f line (show_named f line.show)
act_refusal f (act.Limit name most) = limit_refusal f (limit_named f name)
act_refusal f (act.Boot line) = boot_refusal f line (alloc_named f line.alloc)
act_refusal f (act.Heard heard) = host_refusal f heard (host_named f heard.host)
act_refusal f (act.Submit spec) = submit_refusal f spec (show_named f spec.show)
act_refusal f (act.AddDepend spec) = None
act_refusal f (act.DropDepend depend) = None
act_refusal f (act.Pause job paused) = job_there_refusal f job (pending_named f job)
act_refusal f (act.KillJob job) = job_there_refusal f job (pending_named f job)
act_refusal f (act.KillFrame p) = frame_act_refusal may_kill f p
act_refusal f (act.EatFrame p) = frame_act_refusal may_eat f p
act_refusal f (act.RetryFrame p) = retry_refusal f p
act_refusal f (act.Lock host lock) = name_refusal host (host_named f host)
act_refusal f act.Tick = None
act_refusal f (act.Book slot host) = None

-- what a booking asks beside: that it may be recorded
abbrev pub HasCondition : Farm → Act → Type 0
HasCondition f (act.Book slot host) = may_record f slot host ≡ true
HasCondition f other = Unit {0}

-- ---- hosts that are silent

-- the host of that number is unheard at the moment
abbrev pub is_silent : Farm → ℕ → ℕ → Bool
is_silent f moment host = for_some (slice_get f.hosts host) (is_unheard moment)

-- Each unheard host goes down, and the attempts on it are lost.
abbrev pub expire : Farm → ℕ → Farm
expire f moment = record f { hosts = silenced moment f.hosts; slots = lose_on (is_silent f moment) f.slots }

-- ---- boots

-- where a new life of a host begins, the attempts on it are lost
abbrev pub lose_life : BootLine → ℕ → Option HostRow → List SlotRow → List SlotRow
lose_life line host None slots = slots
lose_life line host (Some row) slots = if is_same_life line row then slots else lose_on (λ n. n == host) slots

abbrev pub slots_at_boot : Farm → BootLine → Option ℕ → List SlotRow
slots_at_boot f line None = f.slots
slots_at_boot f line (Some host) = lose_life line host (slice_get f.hosts host) f.slots

-- the farm after the boot of a host of the allocation of that number
abbrev pub after_boot : Farm → BootLine → ℕ → Option ℕ → Farm
after_boot f line moment None = f
after_boot f line moment (Some alloc) = record f { hosts = booted f.hosts line alloc moment; slots = slots_at_boot f line (host_named f line.host) }

-- ---- completions

-- the frame as the verdict leaves it
abbrev pub judged : Frame → Verdict → Frame
judged frame verdict.Succeeded = record frame { state = frame_state.Succeeded }
judged frame (verdict.Waiting retries) = record frame { state = frame_state.Waiting; retries = retries }
judged frame verdict.Eaten = record frame { state = frame_state.Eaten }
judged frame verdict.Dead = record frame { state = frame_state.Dead }

-- the verdict by the job's greatest number of retries and whether it eats its failures
abbrev pub verdict_for : Exit → Frame → Option JobRow → Verdict
verdict_for exit frame None = verdict_of exit frame.retries 0 false
verdict_for exit frame (Some job) = verdict_of exit frame.retries job.max_retries job.auto_eat

-- the slot without its attempt, its frame judged by the exit
abbrev pub ended_row : Farm → Exit → SlotRow → SlotRow
ended_row f exit s =
    record { version = s.version; frame = option_map (λ frame. judged frame (verdict_for exit frame (job_at f frame.job))) s.frame; proc = None }

-- whether the attempt is this one
abbrev pub is_attempt : ℕ → ℕ → ℕ → ProcRow → Bool
is_attempt host boot version p = p.version == version && p.host == host && p.boot == boot

-- whether the slot's live attempt has that version, host and boot
abbrev pub is_live : Farm → ℕ → ℕ → ℕ → ℕ → Bool
is_live f host boot slot version = for_some (slice_get f.slots slot) (λ s. for_some s.proc (is_attempt host boot version))

-- A completion changes the farm only where it is of a live attempt of that slot and version, on that host and boot.
abbrev pub end_attempt : Farm → ℕ → ℕ → DoneItem → Farm
end_attempt f host boot d =
    if is_live f host boot d.attempt.slot d.attempt.version
    then record f { slots = changed_at f.slots d.attempt.slot (ended_row f d.exit) }
    else f

-- completions in order
abbrev pub end_all : Farm → ℕ → ℕ → List DoneItem → Farm
end_all f host boot [] = f
end_all f host boot (d ∷ ds) = end_all (end_attempt f host boot d) host boot ds

-- ---- bookings

-- the slot with an attempt more: the version rises, and the frame runs
abbrev pub booked_row : ProcRow → SlotRow → SlotRow
booked_row p s =
    record { version = p.version; frame = option_map (λ (frame : Frame). record frame { state = frame_state.Running }) s.frame; proc = Some p }

-- the attempt that a booking of the slot's frame on the host adds: the layer's amounts, on the subscription of the job's show
abbrev pub proc_of : ℕ → ℕ → ℕ → SlotRow → JobRow → LayerRow → HostRow → ProcRow
proc_of slot host moment s job layer row =
    record { slot = slot; version = s.version + 1; host = host; boot = row.boot; cores = layer.cores; memory = layer.memory; sub = sub_of job.show row.alloc; since = moment }

abbrev pub new_proc : Farm → ℕ → ℕ → ℕ → Option ProcRow
new_proc f slot host moment =
    option_and_then (λ s. option_and_then (λ frame. option_and_then (λ job. option_and_then (λ layer.
    option_map (λ row. proc_of slot host moment s job layer row) (slice_get f.hosts host))
    (layer_at f frame.job frame.layer)) (job_at f frame.job)) s.frame) (slice_get f.slots slot)

abbrev pub with_proc : Farm → ℕ → Option ProcRow → Farm
with_proc f slot None = f
with_proc f slot (Some p) = record f { slots = changed_at f.slots slot (booked_row p) }

-- ---- the step

-- the farm's moment never falls
abbrev pub moment_of : Farm → ℕ → ℕ
moment_of f moment = max f.moment moment

-- the farm after the host was heard, and after its completions
abbrev pub after_heard : Farm → HeardAct → ℕ → Option ℕ → Farm
after_heard f act moment None = f
after_heard f act moment (Some host) = end_all (record f { hosts = changed_at f.hosts host (heard_row act.seq moment) }) host act.boot act.done

-- the numbers of the limits that the layers name, each at its layer's place
abbrev pub limits_of : List LimitRow → List LayerSpec → List (Option ℕ)
limits_of limits layers = map (λ (l : LayerSpec). limit_from 0 l.limit limits) layers

-- the farm with the job, of the show of that name
abbrev pub after_submit : Farm → JobSpec → Option ℕ → Farm
after_submit f spec None = f
after_submit f spec (Some show) = with_lists f (with_job (lists_of f) show (limits_of f.limits spec.layers) spec)

-- the number of the subscription that the line speaks of
abbrev pub sub_named : Farm → SubLine → Option ℕ
sub_named f line = option_and_then (λ show. option_map (λ alloc. sub_of show alloc) (alloc_named f line.alloc)) (show_named f line.show)

-- the farm with the subscription of that number, as the line sets it
abbrev pub sub_row : ℕ → SubLine → SubRow
sub_row sub line = record { sub = sub; size = line.size; burst = line.burst }

abbrev pub after_sub : Farm → SubLine → Option ℕ → Farm
after_sub f line None = f
after_sub f line (Some sub) = record f { subs = with_sub (sub_row sub line) f.subs }

-- the farm in which the limit of that number, or a new one, lets so many frames run
abbrev pub limit_row : List ℕ → ℕ → LimitRow
limit_row name most = record { name = name; most = most }

abbrev pub with_most : ℕ → LimitRow → LimitRow
with_most most row = record row { most = most }

abbrev pub after_limit : Farm → List ℕ → ℕ → Option ℕ → Farm
after_limit f name most None = record f { limits = f.limits ++ limit_row name most ∷ [] }
after_limit f name most (Some limit) = record f { limits = changed_at f.limits limit (with_most most) }

-- the farm with the host locked or opened
abbrev pub after_lock : Farm → LockState → Option ℕ → Farm
after_lock f lock None = f
after_lock f lock (Some host) = record f { hosts = changed_at f.hosts host (locked_row lock) }

-- What an act does to hosts, shows, allocations, subscriptions, limits, jobs and attempts. A report, a boot and a tick first see which hosts are silent.
abbrev pub after_act : Farm → ℕ → Act → Farm
after_act f moment act.Opened = record f { hosts = map (reopened_row moment) f.hosts }
after_act f moment (act.Show name) = record f { shows = f.shows ++ record { name = name } ∷ [] }
after_act f moment (act.Alloc facility tag) = record f { allocs = f.allocs ++ record { facility = facility; tag = tag } ∷ [] }
after_act f moment (act.Sub line) = after_sub f line (sub_named f line)
after_act f moment (act.Limit name most) = after_limit f name most (limit_named f name)
after_act f moment (act.Boot line) = after_boot (expire f moment) line moment (alloc_named f line.alloc)
after_act f moment (act.Heard heard) = after_heard (expire f moment) heard moment (host_named f heard.host)
after_act f moment (act.Submit spec) = after_submit f spec (show_named f spec.show)
after_act f moment (act.AddDepend spec) = f
after_act f moment (act.DropDepend depend) = f
after_act f moment (act.Pause job paused) = with_paused f paused (pending_named f job)
after_act f moment (act.KillJob job) = with_killed f (pending_named f job)
after_act f moment (act.KillFrame p) = with_frame f p (stopped_row frame_state.Dead)
after_act f moment (act.EatFrame p) = with_frame f p (stopped_row frame_state.Eaten)
after_act f moment (act.RetryFrame p) = with_frame f p retried_row
after_act f moment (act.Lock host lock) = after_lock f lock (host_named f host)
after_act f moment act.Tick = expire f moment
after_act f moment (act.Book slot host) = with_proc f slot (new_proc f slot host moment)

-- the farm at a moment, recorded as one that an entry made
abbrev pub at_moment : Farm → ℕ → Farm
at_moment f moment = record f { moment = moment; recorded = true }

abbrev pub acted : Farm → Entry → Farm
acted f e = after_act (at_moment f (moment_of f e.moment)) (moment_of f e.moment) e.act

-- ---- depends

-- what the farm refuses of depends
abbrev pub follow_refusal : Farm → Act → Option Refusal
follow_refusal f (act.Submit spec) = depends_refusal (after_submit f spec (show_named f spec.show)) spec.depends
follow_refusal f (act.AddDepend spec) = depend_refusal f spec
follow_refusal f (act.DropDepend depend) = drop_refusal depend (depend_at f depend)
follow_refusal f other = None

-- the first refusal that the farm gives, or none
abbrev pub refusal_of : Farm → Entry → Option Refusal
refusal_of f e = or_else (act_refusal f e.act) (follow_refusal f e.act)

-- What follows of depends: those that come or go, what frames that are done meet, which frames open, and that a frame which is retried is blocked
-- where it isn't open. After every other act nothing follows: the farms of legal runs are settled (`KeepsDepends`).
abbrev pub followed : Act → Farm → Farm
followed (act.Heard heard) f = settle f
followed (act.Submit spec) f = with_depends f spec.depends
followed (act.AddDepend spec) f = after_depend f spec
followed (act.DropDepend depend) f = settle (dropped f depend)
followed (act.KillJob job) f = settle f
followed (act.EatFrame p) f = settle f
followed (act.RetryFrame p) f = with_blocked kept_version f
followed other f = f

-- ---- jobs that finish

-- the farm with that job finished; the depends in which it waits go, with their marks
abbrev pub finish_one : ℕ → Farm → Farm
finish_one job f =
    record (with_lists f (with_finished job (lists_of f))) {
      depends = without_waiter job f.depends;
      met = marks_of (without_waiter job f.depends) f.met;
    }

abbrev pub finish_each : List ℕ → Farm → Farm
finish_each [] f = f
finish_each (job ∷ jobs) f = finish_each jobs (finish_one job f)

-- the numbers of the pending jobs of which no frame is left, in order
abbrev pub finishing : Farm → List ℕ
finishing f = map (λ (j : JobRow). j.job) (filter (finishes f.slots) f.jobs)

unfoldable pub finish_all : Farm → Farm
finish_all f = finish_each (finishing f) f

-- Jobs whose frames are all done by now finish. After every other act none does: a pending job of a legal run's farm has a frame that isn't done (`KeepsWork`).
abbrev pub closed : Act → Farm → Farm
closed (act.Heard heard) f = finish_all f
closed (act.KillJob job) f = finish_all f
closed (act.EatFrame p) f = finish_all f
closed other f = f

-- the farm after an entry that it doesn't refuse
abbrev pub after : Farm → Entry → Farm
after f e = closed e.act (followed e.act (acted f e))
