-- Small farms, whose rows the worked examples compute.
use Rattle.std.specs.Prelude.{ℕ, true, false, List, [], ◌∷◌, map, codes, None, Some, pos}
use Rattle.farm_types.specs.declared.attempt.ProcRow.{ProcRow}
use Rattle.farm_types.specs.declared.depend.DependKind.TheVariants.{FrameByFrame}
use Rattle.farm_types.specs.declared.depend.DependRow.{DependRow}
use Rattle.farm_types.specs.declared.depend.MetRow.{MetRow}
use Rattle.farm_types.specs.declared.rows.AllocRow.{AllocRow}
use Rattle.farm_types.specs.declared.rows.HostRow.{HostRow}
use Rattle.farm_types.specs.declared.rows.JobRow.{JobRow}
use Rattle.farm_types.specs.declared.rows.LayerRow.{LayerRow}
use Rattle.farm_types.specs.declared.rows.LimitRow.{LimitRow}
use Rattle.farm_types.specs.declared.rows.ShowRow.{ShowRow}
use Rattle.farm_types.specs.declared.rows.SubRow.{SubRow}
use Rattle.farm_types.specs.declared.slot_row.Frame.{Frame}
use Rattle.farm_types.specs.declared.slot_row.SlotRow.{SlotRow}
use Rattle.farm_types.specs.declared.states.FrameState.TheVariants as frame_state
use Rattle.farm_types.specs.declared.states.HostState.TheVariants.{Up}
use Rattle.farm_types.specs.declared.states.JobState.TheVariants.{Pending}
use Rattle.farm_types.specs.declared.states.LockState.TheVariants.{Unlocked}
use Rattle.farm_types.specs.Farm.{Farm, empty_farm}
use Rattle.farm_rows.specs.declared.farm_row.FarmRow.{FarmRow}
use Rattle.farm_rows.specs.declared.farm_row.FarmRow.TheVariants as row
use Rattle.farm_rows.specs.Rows.{rows_of, row_id, row_kind, slot_rows}

-- the farm that was opened at moment 0, and its one row
abbrev pub opened_farm : Farm
opened_farm = record empty_farm { recorded = true }

abbrev pub new_farm : List FarmRow
new_farm = row.Head (record { format = 2; moment = 0; jobs = 1; finishes = 1; depends = 1 }) ∷ []

-- a slot whose frame waits, one whose frame runs, and a free one
abbrev pub frame_in : ℕ → Frame
frame_in layer = record { job = 3; layer = layer; position = 0; number = pos 7; retries = 0; state = frame_state.Waiting }

abbrev pub waiting : SlotRow
waiting = record { version = 0; frame = Some (frame_in 0); proc = None }

abbrev pub used : ℕ → SlotRow
used version = record { version = version; frame = None; proc = None }

abbrev pub attempt : ProcRow
attempt = record { slot = 1; version = 1; host = 0; boot = 1; cores = 100; memory = 262144; sub = 0; since = 5 }

abbrev pub running : SlotRow
running = record { version = 1; frame = Some (record (frame_in 1) { state = frame_state.Running }); proc = Some attempt }

abbrev pub slots_of : List SlotRow → List ℕ
slots_of slots = map row_id (slot_rows 0 slots)

-- ---- a farm with rows of every kind

abbrev pub show_called : List ℕ → ShowRow
show_called name = record { name = name }

abbrev pub farm_general : AllocRow
farm_general = record { facility = codes "farm"; tag = codes "general" }

abbrev pub sub_numbered : ℕ → SubRow
sub_numbered sub = record { sub = sub; size = 100; burst = 200 }

abbrev pub host_one : HostRow
host_one =
    record {
      name = codes "h1";
      alloc = 0;
      tags = [];
      cores = 800;
      memory = 33554432;
      boot = 1;
      nonce = 7;
      seq = 0;
      heard = 5;
      lock = Unlocked;
      state = Up;
    }

abbrev pub job_three : JobRow
job_three =
    record {
      job = 3;
      name = codes "j";
      show = 0;
      facility = codes "farm";
      shot = [];
      user = [];
      priority = 100;
      max_retries = 3;
      auto_eat = false;
      paused = false;
      state = Pending;
      frames = 2;
      finish = 0;
      eaten = 0;
      succeeded = 0;
    }

abbrev pub layer_at_place : ℕ → List ℕ → LayerRow
layer_at_place place name =
    record {
      job = 3;
      place = place;
      name = name;
      range = codes "7";
      command = codes "true";
      cores = 100;
      memory = 262144;
      tags = codes "general" ∷ [];
      limit = Some place;
    }

abbrev pub limit_called : List ℕ → LimitRow
limit_called name = record { name = name; most = 40 }

abbrev pub depend_two : DependRow
depend_two =
    record {
      depend = 2;
      kind = FrameByFrame;
      any = false;
      met_all = false;
      waiter = record { job = 3; layer = Some (codes "b"); frame = None };
      target = record { job = 3; layer = Some (codes "a"); frame = None };
    }

abbrev pub met_at : ℕ → MetRow
met_at position = record { depend = 2; position = position }

abbrev pub small_farm : Farm
small_farm =
    record {
      shows = show_called (codes "alpha") ∷ show_called (codes "beta") ∷ [];
      allocs = farm_general ∷ [];
      subs = sub_numbered 0 ∷ sub_numbered 16 ∷ [];
      limits = limit_called (codes "arnold") ∷ limit_called (codes "nuke") ∷ [];
      hosts = host_one ∷ [];
      jobs = job_three ∷ [];
      layers = layer_at_place 0 (codes "a") ∷ layer_at_place 1 (codes "b") ∷ [];
      slots = waiting ∷ running ∷ used 0 ∷ [];
      depends = depend_two ∷ [];
      met = met_at 0 ∷ met_at 3 ∷ [];
      next_job = 4;
      next_depend = 3;
      next_finish = 1;
      moment = 5;
      recorded = true;
    }

abbrev pub kinds_of : List ℕ
kinds_of = map row_kind (rows_of small_farm)

abbrev pub ids_of : List ℕ
ids_of = map row_id (rows_of small_farm)
