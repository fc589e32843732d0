-- What the farm answers to an entry that it takes.
use Rattle.std.specs.Prelude.{ℕ, ◌+◌, Option, None, Some, slice_get, option_and_then, if◌then◌else◌}
use Rattle.farm_types.specs.declared.answer.Answer.{Answer}
use Rattle.farm_types.specs.declared.answer.Answer.TheVariants as answer
use Rattle.farm_types.specs.declared.boot.BootLine.{BootLine}
use Rattle.farm_types.specs.declared.entry.Entry.{Entry}
use Rattle.farm_types.specs.declared.entry.Act.{Act}
use Rattle.farm_types.specs.declared.entry.Act.TheVariants as act
use Rattle.farm_types.specs.declared.rows.HostRow.{HostRow}
use Rattle.farm_types.specs.DependActs.{add_depend, dropped, pending_named, unmet_of}
use Rattle.farm_types.specs.Farm.{Farm, host_named, limit_named}
use Rattle.farm_types.specs.Hosts.{count_unheard, is_same_life}
use Rattle.farm_types.specs.Lost.{count_on}
use Rattle.farm_types.specs.Jobs.{frames_in}
use Rattle.farm_types.specs.Operators.{count_at, count_of, slot_row_named}
use Rattle.farm_types.specs.Settle.{opened_by, settle}
use Rattle.farm_types.specs.Step.{is_silent, moment_of, sub_named}
use Rattle.farm_types.specs.Sums.{booked_in, running_in}

-- the cores that are booked of the subscription of that number
abbrev pub booked_of : Farm → Option ℕ → ℕ
booked_of f None = 0
booked_of f (Some sub) = booked_in f sub

-- how many frames run in the limit of that number, 0 in one that is new
abbrev pub running_of : Farm → Option ℕ → ℕ
running_of f None = 0
running_of f (Some limit) = running_in f limit

-- the boot number of the host that boots: 1 of a new host, the same in the same life, and one more in a new life
abbrev pub boot_number : BootLine → Option HostRow → ℕ
boot_number line None = 1
boot_number line (Some row) = if is_same_life line row then row.boot else row.boot + 1

-- the host of that name
abbrev pub row_named : Farm → BootLine → Option HostRow
row_named f line = option_and_then (λ host. slice_get f.hosts host) (host_named f line.host)

abbrev pub answer_at : Farm → ℕ → Act → Answer
answer_at f moment act.Opened = answer.Opened
answer_at f moment (act.Show name) = answer.Show
answer_at f moment (act.Alloc facility tag) = answer.Alloc
answer_at f moment (act.Sub line) = answer.Sub (booked_of f (sub_named f line)) line.burst line.size
answer_at f moment (act.Limit name most) = answer.Limit most (running_of f (limit_named f name))
answer_at f moment (act.Boot line) = answer.Boot (boot_number line (row_named f line)) line.nonce
answer_at f moment (act.Heard heard) = answer.Heard
answer_at f moment (act.Submit spec) = answer.Submitted (frames_in spec.layers)
answer_at f moment (act.AddDepend spec) = answer.DependAdded f.next_depend (unmet_of (settle (add_depend f spec)) f.next_depend)
answer_at f moment (act.DropDepend depend) = answer.DependDropped (opened_by (dropped f depend))
answer_at f moment (act.Pause job paused) = answer.Paused
answer_at f moment (act.KillJob job) = answer.Ended (count_of f (pending_named f job))
answer_at f moment (act.KillFrame p) = answer.Ended (count_at (slot_row_named f p))
answer_at f moment (act.EatFrame p) = answer.Ended (count_at (slot_row_named f p))
answer_at f moment (act.RetryFrame p) = answer.Ended (count_at (slot_row_named f p))
answer_at f moment (act.Lock host lock) = answer.Lock
answer_at f moment act.Tick = answer.Tick (count_unheard moment f.hosts) (count_on (is_silent f moment) f.slots)
answer_at f moment (act.Book slot host) = answer.Booked

-- what the farm answers to the entry
abbrev pub answer_of : Farm → Entry → Answer
answer_of f e = answer_at f (moment_of f e.moment) e.act
