-- How a frame's change of state changes the counts of its job.
use Rattle.std.specs.Prelude.{ℕ, ◌==◌, ◌+◌, ◌-◌, ◌<◌, ◌≤◌, if◌then◌else◌}
use Rattle.farm_types.specs.declared.states.FrameState.{FrameState}
use Rattle.farm_types.specs.declared.states.FrameState.TheVariants as frame_state
use Rattle.job_entries.specs.declared.counts.Counts.{Counts}
use Rattle.farm_types.specs.declared.limits.TheConstants.{SLOT_LIMIT}

-- the number of a state
abbrev pub number_of : FrameState → ℕ
number_of frame_state.Waiting = 0
number_of frame_state.Setup = 1
number_of frame_state.Running = 2
number_of frame_state.Succeeded = 3
number_of frame_state.Depend = 4
number_of frame_state.Dead = 5
number_of frame_state.Eaten = 6

-- one where the state is the one of that number
abbrev pub one : FrameState → ℕ → ℕ
one state number = if number_of state == number then 1 else 0

-- how many are counted in a state
abbrev pub part : FrameState → Counts → ℕ
part frame_state.Waiting c = c.waiting
part frame_state.Setup c = c.setup
part frame_state.Running c = c.running
part frame_state.Succeeded c = c.succeeded
part frame_state.Depend c = c.depend
part frame_state.Dead c = c.dead
part frame_state.Eaten c = c.eaten

-- one fewer in that state
abbrev pub counted_out : FrameState → Counts → Counts
counted_out state c =
    record {
      waiting = c.waiting - one state 0;
      setup = c.setup - one state 1;
      running = c.running - one state 2;
      succeeded = c.succeeded - one state 3;
      depend = c.depend - one state 4;
      dead = c.dead - one state 5;
      eaten = c.eaten - one state 6;
    }

-- one more in that state
abbrev pub counted_in : FrameState → Counts → Counts
counted_in state c =
    record {
      waiting = c.waiting + one state 0;
      setup = c.setup + one state 1;
      running = c.running + one state 2;
      succeeded = c.succeeded + one state 3;
      depend = c.depend + one state 4;
      dead = c.dead + one state 5;
      eaten = c.eaten + one state 6;
    }

-- a frame gone from one state into another
abbrev pub moved : FrameState → FrameState → Counts → Counts
moved old new c = counted_in new (counted_out old c)

-- some frame is counted in the old state, and no state counts more frames than there are slots
abbrev pub CanMove : FrameState → FrameState → Counts → Type 0
CanMove old new c = (0 < part old c) × (part new c ≤ SLOT_LIMIT)

-- the counts of a job whose frames all wait
abbrev pub new_counts : ℕ → Counts
new_counts frames = record { waiting = frames; setup = 0; running = 0; succeeded = 0; depend = 0; dead = 0; eaten = 0 }
