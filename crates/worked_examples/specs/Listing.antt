-- Worked examples of lists, over the farm of the demonstration.
use Rattle.std.specs.Prelude.{ℕ, List, [], codes, false, take, Result, Ok, Err}
use Rattle.serde_json.specs.Data.{Members, member, no_members, number, string, unsigned}
use Rattle.farm_types.specs.declared.depend.DependKind.TheVariants.{JobOnJob}
use Rattle.farm_types.specs.declared.states.FrameState.TheVariants as frame_state
use Rattle.farm_types.specs.declared.refusal.Refusal.{Refusal}
use Rattle.farm_types.specs.declared.states.HostState.TheVariants as host_state
use Rattle.farm_types.specs.declared.states.JobState.TheVariants as job_state
use Rattle.farm_types.specs.declared.states.LockState.TheVariants as lock_state
use Rattle.farm_types.specs.Farm.{Farm}
use Rattle.farm_lines.specs.declared.list_row.ListRow.{ListRow}
use Rattle.farm_lines.specs.declared.list_row.ListRow.TheVariants as row
use Rattle.farm_lines.specs.declared.query.Listed.{Listed}
use Rattle.farm_lines.specs.declared.query.Query.{Query}
use Rattle.farm_lines.specs.Lists.{page_listed, rows_listed}
use Rattle.farm_lines.specs.Reply.{reply_text}
use Rattle.farm_lines.specs.Transcript.{list_reply}

-- a list from its first row on
abbrev pub whole_list : Listed → Query
whole_list what = record { what = what; from = 0 }

-- the demonstration's job, with so many frames running, done and waiting
abbrev pub demo_job : ℕ → ℕ → ℕ → ListRow
demo_job running succeeded waiting =
    row.Job (record {
      dead = 0;
      depend = 0;
      eaten = 0;
      name = codes "demo-job";
      paused = false;
      priority = 100;
      running = running;
      show = codes "demo";
      state = job_state.Pending;
      succeeded = succeeded;
      waiting = waiting;
    })

-- the same once it was killed: all ten frames were eaten
abbrev pub killed_job : ListRow
killed_job =
    row.Job (record {
      dead = 0;
      depend = 0;
      eaten = 10;
      name = codes "demo-job";
      paused = false;
      priority = 100;
      running = 0;
      show = codes "demo";
      state = job_state.Finished;
      succeeded = 0;
      waiting = 0;
    })

-- its layer, with so many frames running, done and waiting
abbrev pub demo_layer : ℕ → ℕ → ℕ → ListRow
demo_layer running succeeded waiting =
    row.Layer (record {
      cores = 100;
      dead = 0;
      depend = 0;
      eaten = 0;
      limit = [];
      memory = 3355443;
      name = codes "render";
      range = codes "1-10";
      running = running;
      succeeded = succeeded;
      waiting = waiting;
    })

-- the demonstration's host, with so much in use
abbrev pub demo_host : ℕ → ℕ → ListRow
demo_host cores memory =
    row.Host (record {
      alloc = codes "farm.general";
      boot = 1;
      cores = 800;
      heard = 0;
      lock = lock_state.Unlocked;
      memory = 33554432;
      name = codes "h1";
      state = host_state.Up;
      used_cores = cores;
      used_memory = memory;
    })

-- the demonstration's subscription, with so much booked
abbrev pub demo_sub : ℕ → ListRow
demo_sub booked = row.Sub (record { alloc = codes "farm.general"; booked = booked; burst = 400; show = codes "demo"; size = 400 })

-- a frame that is blocked and never ran
abbrev pub blocked_frame : List ℕ → ListRow
blocked_frame name = row.Frame (record { frame = name; retries = 0; state = frame_state.Depend; version = 1 })

-- an attempt of the demonstration's host, of one core, in a slot
abbrev pub demo_proc : List ℕ → ℕ → ListRow
demo_proc frame slot =
    row.Proc (record { cores = 100; frame = frame; host = codes "h1"; job = codes "demo-job"; memory = 3355443; slot = slot; version = 1 })

abbrev pub first_depend : ListRow
first_depend = row.Depend (record { depend = 1; kind = JobOnJob; satisfied = false })

-- the first row of a list
abbrev pub first_of : Result (List ListRow) Refusal → List ListRow
first_of (Ok rows) = take 1 rows
first_of (Err why) = []

abbrev pub first_row : Farm → Listed → List ListRow
first_row f what = first_of (rows_listed f what)

-- the text of the reply to a list
abbrev pub text_of_list : Farm → Listed → List ℕ
text_of_list f what = reply_text (list_reply (page_listed f (whole_list what)))

-- the lines {"from":2,"job":"hi","op":"list","what":"frames"} and {"job":"hi","op":"list","what":"procs"}
abbrev pub frames_line : Members
frames_line =
    member (codes "from") (number (unsigned 2)) (member (codes "job") (string (codes "hi")) (member (codes "op") (string (codes "list"))
    (member (codes "what") (string (codes "frames")) no_members)))

abbrev pub procs_line : Members
procs_line =
    member (codes "job") (string (codes "hi")) (member (codes "op") (string (codes "list")) (member (codes "what") (string (codes "procs")) no_members))
