-- What the journal's farm says that words have to show, while its last entry is being carried out.
use Rattle.std.specs.Prelude.{◌≡◌, ℕ, Bool, false, not, if◌then◌else◌, ◌==◌, ◌&&◌, ◌||◌, ◌+◌, List, [], ◌∷◌, Option, Some, None, slice_get}
use Rattle.farm_types.specs.declared.attempt.ProcRow.{ProcRow}
use Rattle.farm_types.specs.declared.entry.Entry.{Entry}
use Rattle.farm_types.specs.declared.rows.HostRow.{HostRow}
use Rattle.farm_types.specs.declared.rows.JobRow.{JobRow}
use Rattle.farm_types.specs.declared.rows.LayerRow.{LayerRow}
use Rattle.farm_types.specs.declared.rows.LimitRow.{LimitRow}
use Rattle.farm_types.specs.declared.rows.SubRow.{SubRow}
use Rattle.farm_types.specs.declared.slot_row.Frame.{Frame}
use Rattle.farm_types.specs.declared.slot_row.SlotRow.{SlotRow}
use Rattle.farm_types.specs.declared.states.FrameState.{FrameState}
use Rattle.farm_types.specs.declared.states.FrameState.TheVariants as frame_state
use Rattle.farm_types.specs.Farm.{Farm, empty_farm, job_at, layer_at, sub_at, sub_of}
use Rattle.farm_types.specs.Run.{run_of}
use Rattle.booking_rule.specs.declared.opening.Opening.{Opening}
use Rattle.booking_rule.specs.declared.desk.Desk.{Desk}
use Rattle.booking_rule.specs.Recorded.{Stand, free_at, Recorded}

-- ---- the opening farm

abbrev pub farm_of : Opening → Farm
farm_of o =
    record {
      shows = o.shows;
      allocs = o.allocs;
      subs = o.subs;
      limits = o.limits;
      hosts = o.hosts;
      jobs = o.jobs;
      layers = o.layers;
      slots = o.slots;
      depends = o.depends;
      met = o.met;
      next_job = o.next_job;
      next_depend = o.next_depend;
      next_finish = o.next_finish;
      moment = o.moment;
      recorded = o.recorded;
    }

abbrev pub opening_of : Farm → Opening
opening_of f =
    record {
      shows = f.shows;
      allocs = f.allocs;
      subs = f.subs;
      limits = f.limits;
      hosts = f.hosts;
      jobs = f.jobs;
      layers = f.layers;
      slots = f.slots;
      depends = f.depends;
      met = f.met;
      next_job = f.next_job;
      next_depend = f.next_depend;
      next_finish = f.next_finish;
      moment = f.moment;
      recorded = f.recorded;
    }

-- ---- what a farm says

abbrev pub phase_of : FrameState → ℕ
phase_of frame_state.Waiting = 1
phase_of frame_state.Depend = 2
phase_of frame_state.Setup = 3
phase_of frame_state.Running = 4
phase_of frame_state.Succeeded = 5
phase_of frame_state.Dead = 6
phase_of frame_state.Eaten = 7

abbrev pub host_in : Option ProcRow → ℕ
host_in None = 0
host_in (Some p) = p.host

-- where a frame runs, 0 where it doesn't
abbrev pub host_where : FrameState → Option ProcRow → ℕ
host_where frame_state.Waiting proc = 0
host_where frame_state.Depend proc = 0
host_where frame_state.Setup proc = 0
host_where frame_state.Running proc = host_in proc
host_where frame_state.Succeeded proc = 0
host_where frame_state.Dead proc = 0
host_where frame_state.Eaten proc = 0

abbrev pub show_of : Option JobRow → ℕ
show_of None = 0
show_of (Some j) = j.show

abbrev pub cores_in : Option LayerRow → ℕ
cores_in None = 0
cores_in (Some l) = l.cores

abbrev pub memory_in : Option LayerRow → ℕ
memory_in None = 0
memory_in (Some l) = l.memory

abbrev pub limit_code : Option ℕ → ℕ
limit_code None = 0
limit_code (Some limit) = limit + 1

-- a word's way to say which limit a layer has
abbrev pub limit_of : Option LayerRow → ℕ
limit_of None = 0
limit_of (Some l) = limit_code l.limit

abbrev pub frame_stand : Farm → SlotRow → Option Frame → Stand
frame_stand f s None = free_at s.version
frame_stand f s (Some x) =
    record {
      phase = phase_of x.state;
      version = s.version;
      host = host_where x.state s.proc;
      cores = cores_in (layer_at f x.job x.layer);
      show = show_of (job_at f x.job);
      limit = limit_of (layer_at f x.job x.layer);
      memory = memory_in (layer_at f x.job x.layer);
    }

abbrev pub slot_stand : Farm → Option SlotRow → Stand
slot_stand f None = free_at 0
slot_stand f (Some s) = frame_stand f s s.frame

unfoldable pub stand_at : Farm → ℕ → Stand
stand_at f slot = slot_stand f (slice_get f.slots slot)

abbrev pub of_host : (HostRow → ℕ) → Option HostRow → ℕ
of_host field None = 0
of_host field (Some row) = field row

unfoldable pub host_cores : Farm → ℕ → ℕ
host_cores f host = of_host (λ row. row.cores) (slice_get f.hosts host)

unfoldable pub host_memory : Farm → ℕ → ℕ
host_memory f host = of_host (λ row. row.memory) (slice_get f.hosts host)

unfoldable pub host_alloc : Farm → ℕ → ℕ
host_alloc f host = of_host (λ row. row.alloc) (slice_get f.hosts host)

abbrev pub burst_in : Option SubRow → ℕ
burst_in None = 0
burst_in (Some s) = s.burst

unfoldable pub burst_at : Farm → ℕ → ℕ
burst_at f sub = burst_in (sub_at f sub)

abbrev pub most_in : Option LimitRow → ℕ
most_in None = 0
most_in (Some row) = row.most

unfoldable pub most_at : Farm → ℕ → ℕ
most_at f limit = most_in (slice_get f.limits limit)

-- ---- what is recorded

abbrev pub has : ℕ → List ℕ → Bool
has n [] = false
has n (x ∷ xs) = (x == n) || has n xs

-- the farm before the last entry: the empty one while the words are placed for the first time
abbrev pub farm_before : Opening → Option (List Entry) → Farm
farm_before o None = empty_farm
farm_before o (Some log) = run_of (farm_of o) log

-- what a word has to show: what the farm says, once the word was changed, and until then what the farm before says
abbrev pub recorded_by : {X : Type 0} → (Farm → ℕ → X) → Farm → Farm → List ℕ → ℕ → X
recorded_by says old now done n = if has n done then says now n else says old n

-- a limit by a word's way to say it is among them
abbrev pub has_limit : ℕ → List ℕ → Bool
has_limit code [] = false
has_limit code (x ∷ xs) = (code == x + 1) || has_limit code xs

-- while the words are placed for the first time: of a frame that runs, until its own word is placed, once these were
abbrev pub lent : Option (List Entry) → Bool → Bool → Stand → Stand
lent None done placed s = if not done && (placed && (s.phase == 4)) then s else free_at 0
lent (Some log) done placed s = free_at 0

-- the frame's host was placed; its subscription was, too; its limit was
abbrev pub hosted : Desk → Stand → Bool
hosted d s = has s.host d.hosts

abbrev pub is_billed : Farm → Desk → Stand → Bool
is_billed f d s = has s.host d.hosts && has (sub_of s.show (host_alloc f s.host)) d.subs

abbrev pub is_counted : Desk → Stand → Bool
is_counted d s = has_limit s.limit d.limits

abbrev pub recorded_of : Farm → Farm → Desk → Recorded
recorded_of old now d =
    record {
      slot = recorded_by stand_at old now d.slots;
      cores = recorded_by host_cores old now d.hosts;
      memory = recorded_by host_memory old now d.hosts;
      alloc = recorded_by host_alloc old now d.hosts;
      burst = recorded_by burst_at old now d.subs;
      most = recorded_by most_at old now d.limits;
      roomed = λ slot. lent d.before (has slot d.slots) (hosted d (stand_at now slot)) (stand_at now slot);
      billed = λ slot. lent d.before (has slot d.slots) (is_billed now d (stand_at now slot)) (stand_at now slot);
      counted = λ slot. lent d.before (has slot d.slots) (is_counted d (stand_at now slot)) (stand_at now slot);
    }

abbrev pub recorded_in : Opening → List Entry → Desk → Recorded
recorded_in o log d = recorded_of (farm_before o d.before) (run_of (farm_of o) log) d

-- nothing is left to do: each word shows what the farm says
pub record IsDone (o : Opening) (log : List Entry) (d : Desk) : Type 0 where
  pub slot : (n : ℕ) → (recorded_in o log d).slot n ≡ stand_at (run_of (farm_of o) log) n
  pub cores : (n : ℕ) → (recorded_in o log d).cores n ≡ host_cores (run_of (farm_of o) log) n
  pub memory : (n : ℕ) → (recorded_in o log d).memory n ≡ host_memory (run_of (farm_of o) log) n
  pub alloc : (n : ℕ) → (recorded_in o log d).alloc n ≡ host_alloc (run_of (farm_of o) log) n
  pub burst : (n : ℕ) → (recorded_in o log d).burst n ≡ burst_at (run_of (farm_of o) log) n
  pub most : (n : ℕ) → (recorded_in o log d).most n ≡ most_at (run_of (farm_of o) log) n
