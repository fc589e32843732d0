-- The farm of the demonstration: one show, allocation, subscription and host, and a job of ten frames.
use Rattle.std.specs.Prelude.{ℕ, zero, suc, pos, ◌+◌, List, [], ◌∷◌, ◌++◌, codes, true, false, None, Some}
use Rattle.farm_types.specs.declared.rows.HostRow.{HostRow}
use Rattle.farm_types.specs.declared.rows.JobRow.{JobRow}
use Rattle.farm_types.specs.declared.rows.LayerRow.{LayerRow}
use Rattle.farm_types.specs.declared.slot_row.SlotRow.{SlotRow}
use Rattle.farm_types.specs.declared.states.FrameState.TheVariants as frame_state
use Rattle.farm_types.specs.declared.states.JobState.TheVariants as job_state
use Rattle.farm_types.specs.declared.states.HostState.TheVariants as host_state
use Rattle.farm_types.specs.declared.states.LockState.TheVariants as lock_state
use Rattle.farm_types.specs.Farm.{Farm}

abbrev pub demo_host : ℕ → HostRow
demo_host moment =
    record {
      name = codes "h1";
      alloc = 0;
      tags = [];
      cores = 800;
      memory = 33554432;
      boot = 1;
      nonce = 1;
      seq = 0;
      heard = moment;
      lock = lock_state.Unlocked;
      state = host_state.Up;
    }

abbrev pub demo_job : JobRow
demo_job =
    record {
      job = 1;
      name = codes "demo-job";
      show = 0;
      facility = codes "farm";
      shot = [];
      user = [];
      priority = 100;
      max_retries = 3;
      auto_eat = false;
      paused = false;
      state = job_state.Pending;
      frames = 10;
      finish = 0;
      eaten = 0;
      succeeded = 0;
    }

abbrev pub demo_layer : LayerRow
demo_layer =
    record {
      job = 1;
      place = 0;
      name = codes "render";
      range = codes "1-10";
      command = codes "echo #IFRAME#";
      cores = 100;
      memory = 3355443;
      tags = codes "general" ∷ [];
      limit = None;
    }

-- a waiting frame at a position, numbered from 1
abbrev pub demo_slot : ℕ → SlotRow
demo_slot position =
    record {
      version = 0;
      frame = Some (record { job = 1; layer = 0; position = position; number = pos (position + 1); retries = 0; state = frame_state.Waiting });
      proc = None;
    }

abbrev pub demo_slots : ℕ → List SlotRow
demo_slots zero = []
demo_slots (suc n) = demo_slots n ++ demo_slot n ∷ []

-- the farm as it is opened at a moment
abbrev pub demo_farm : ℕ → Farm
demo_farm moment =
    record {
      shows = record { name = codes "demo" } ∷ [];
      allocs = record { facility = codes "farm"; tag = codes "general" } ∷ [];
      subs = record { sub = 0; size = 400; burst = 400 } ∷ [];
      limits = [];
      hosts = demo_host moment ∷ [];
      jobs = demo_job ∷ [];
      layers = demo_layer ∷ [];
      slots = demo_slots 10;
      depends = [];
      met = [];
      next_job = 2;
      next_depend = 1;
      next_finish = 1;
      moment = moment;
      recorded = true;
    }
