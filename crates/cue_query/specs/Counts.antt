-- How many frames of a job and of a layer a list shows in each state.
use Rattle.std.specs.Prelude.{List}
use Rattle.farm_types.specs.declared.rows.JobRow.{JobRow}
use Rattle.farm_types.specs.declared.slot_row.SlotRow.{SlotRow}
use Rattle.farm_types.specs.Booking.{is_waiting}
use Rattle.farm_types.specs.DependActs.{is_running}
use Rattle.farm_types.specs.Farm.{Farm}
use Rattle.farm_types.specs.Finish.{has_succeeded, was_eaten}
use Rattle.farm_types.specs.Kept.{is_setup}
use Rattle.farm_types.specs.Settle.{is_blocked}
use Rattle.farm_lines.specs.Lists.{count_among, is_dead, shown_count}
use Rattle.job_entries.specs.declared.counts.Counts.{Counts}

-- a job's frames; of a finished one the numbers that are kept
abbrev pub job_counts : Farm → JobRow → Counts
job_counts f j =
    record {
      waiting = shown_count f j is_waiting 0;
      setup = shown_count f j is_setup 0;
      running = shown_count f j is_running 0;
      succeeded = shown_count f j has_succeeded j.succeeded;
      depend = shown_count f j is_blocked 0;
      dead = shown_count f j is_dead 0;
      eaten = shown_count f j was_eaten j.eaten;
    }

-- the frames in these slots
abbrev pub counts_among : List SlotRow → Counts
counts_among slots =
    record {
      waiting = count_among is_waiting slots;
      setup = count_among is_setup slots;
      running = count_among is_running slots;
      succeeded = count_among has_succeeded slots;
      depend = count_among is_blocked slots;
      dead = count_among is_dead slots;
      eaten = count_among was_eaten slots;
    }
