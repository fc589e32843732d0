-- Rows, whose bytes the worked examples compute.
use Rattle.std.specs.Prelude.{false, [], ◌∷◌, codes, None, Some, pos, negsuc}
use Rattle.farm_types.specs.declared.depend.DependKind.TheVariants.{FrameOnLayer}
use Rattle.farm_types.specs.declared.depend.DependRow.{DependRow}
use Rattle.farm_types.specs.declared.depend.MetRow.{MetRow}
use Rattle.farm_types.specs.declared.rows.HostRow.{HostRow}
use Rattle.farm_types.specs.declared.rows.JobRow.{JobRow}
use Rattle.farm_types.specs.declared.rows.LayerRow.{LayerRow}
use Rattle.farm_types.specs.declared.rows.LimitRow.{LimitRow}
use Rattle.farm_types.specs.declared.rows.SubRow.{SubRow}
use Rattle.farm_types.specs.declared.states.HostState.TheVariants.{Up}
use Rattle.farm_types.specs.declared.states.JobState.TheVariants.{Pending}
use Rattle.farm_types.specs.declared.states.LockState.TheVariants.{Unlocked}
use Rattle.farm_rows.specs.declared.frame_row.FrameRow.{FrameRow}
use Rattle.farm_rows.specs.declared.frame_row.StoredState.TheVariants as stored
use Rattle.farm_rows.specs.declared.head_row.HeadRow.{HeadRow}

-- the row of a farm that was opened at moment 0
abbrev pub head : HeadRow
head = record { format = 2; moment = 0; jobs = 1; finishes = 1; depends = 1 }

abbrev pub sub_row : SubRow
sub_row = record { sub = 16; size = 1000; burst = 2000 }

-- a layer whose command has quotes
abbrev pub layer_row : LayerRow
layer_row =
    record {
      job = 1;
      place = 0;
      name = codes "render";
      range = codes "-2-7";
      command = codes "echo \"a\"";
      cores = 100;
      memory = 3355443;
      tags = codes "general" ∷ codes "gpu" ∷ [];
      limit = Some 2;
    }

abbrev pub unlimited_row : LayerRow
unlimited_row = record layer_row { limit = None }

abbrev pub limit_row : LimitRow
limit_row = record { name = codes "arnold"; most = 40 }

abbrev pub host_row : HostRow
host_row =
    record {
      name = codes "h1";
      alloc = 0;
      tags = [];
      cores = 1600;
      memory = 67108864;
      boot = 1;
      nonce = 7;
      seq = 0;
      heard = 0;
      lock = Unlocked;
      state = Up;
    }

abbrev pub job_row : JobRow
job_row =
    record {
      job = 1;
      name = codes "a";
      show = 0;
      facility = codes "farm";
      shot = [];
      user = [];
      priority = 100;
      max_retries = 3;
      auto_eat = false;
      paused = false;
      state = Pending;
      frames = 1;
      finish = 0;
      eaten = 0;
      succeeded = 0;
    }

abbrev pub free_row : FrameRow
free_row = record { slot = 5; version = 3; frame = None }

abbrev pub dead_row : FrameRow
dead_row = record { slot = 0; version = 16777215; frame = Some (record { job = 1; layer = 0; number = pos 1; retries = 0; state = stored.Dead }) }

-- the frame of number -2 that runs
abbrev pub running_row : FrameRow
running_row =
    record { slot = 6; version = 4; frame = Some (record { job = 1; layer = 0; number = negsuc 1; retries = 1; state = stored.Running 2 0 30 }) }

abbrev pub depend_row : DependRow
depend_row =
    record {
      depend = 1;
      kind = FrameOnLayer;
      any = false;
      met_all = false;
      waiter = record { job = 1; layer = Some (codes "render"); frame = Some (pos 7) };
      target = record { job = 2; layer = Some (codes "sim"); frame = None };
    }

abbrev pub met_row : MetRow
met_row = record { depend = 1; position = 3 }
