-- What the book of hosts answers.
use Rattle.std.specs.Prelude.{ℕ, ◌==◌, ◌+◌, List, length, Option, None, Some, nat_lt, slice_get, Result, Ok, Err, ⊤, if◌then◌else◌}
use Rattle.farm_types.specs.declared.boot.BootLine.{BootLine}
use Rattle.farm_types.specs.declared.fault.FarmFault.{FarmFault}
use Rattle.farm_types.specs.declared.fault.FarmFault.TheVariants.{Refused}
use Rattle.farm_types.specs.declared.refusal.Refusal.TheVariants as refusal
use Rattle.farm_types.specs.declared.rows.HostRow.{HostRow}
use Rattle.farm_types.specs.Farm.{host_from}
use Rattle.farm_types.specs.Hosts.{is_same_life}
use Rattle.host_book.specs.declared.boots.BootPlan.{BootPlan}
use Rattle.host_book.specs.declared.boots.BootPlan.TheVariants.{New, Same, Again}
use Rattle.host_book.specs.declared.boots.HostRefusal.{HostRefusal}
use Rattle.host_book.specs.declared.boots.HostRefusal.TheVariants.{OtherAlloc, HostsFull, BootsSpent}
use Rattle.host_book.specs.declared.boots.HeardRefusal.{HeardRefusal}
use Rattle.host_book.specs.declared.boots.HeardRefusal.TheVariants.{WrongBoot, Stale}
use Rattle.farm_types.specs.declared.limits.TheConstants.{LAST_BOOT, MOST_HOSTS}

-- the allocation of a planned boot
abbrev pub alloc_of : BootPlan → ℕ
alloc_of (New boot alloc) = alloc
alloc_of (Same boot alloc) = alloc
alloc_of (Again boot alloc) = alloc

-- what the boot of a host that is there comes to
abbrev pub life_plan : BootLine → ℕ → HostRow → Result BootPlan HostRefusal
life_plan line alloc row =
    if row.alloc == alloc
    then (if is_same_life line row then Ok (Same row.boot alloc) else (if nat_lt row.boot LAST_BOOT then Ok (Again (row.boot + 1) alloc) else Err BootsSpent))
    else Err (OtherAlloc row.alloc)

-- what the first boot of a host comes to
abbrev pub first_plan : List HostRow → ℕ → Result BootPlan HostRefusal
first_plan hosts alloc = if nat_lt (length hosts) MOST_HOSTS then Ok (New 1 alloc) else Err HostsFull

abbrev pub plan_by : List HostRow → BootLine → ℕ → Option HostRow → Result BootPlan HostRefusal
plan_by hosts line alloc None = first_plan hosts alloc
plan_by hosts line alloc (Some row) = life_plan line alloc row

abbrev pub plan_at : List HostRow → BootLine → ℕ → Option ℕ → Result BootPlan HostRefusal
plan_at hosts line alloc None = first_plan hosts alloc
plan_at hosts line alloc (Some host) = plan_by hosts line alloc (slice_get hosts host)

-- what a boot comes to, or why it isn't taken
abbrev pub plan_of : List HostRow → BootLine → ℕ → Result BootPlan HostRefusal
plan_of hosts line alloc = plan_at hosts line alloc (host_from 0 line.host hosts)

-- the number of the host that boots
abbrev pub number_in : List HostRow → Option ℕ → ℕ
number_in hosts None = length hosts
number_in hosts (Some host) = host

abbrev pub number_of : List HostRow → BootLine → ℕ
number_of hosts line = number_in hosts (host_from 0 line.host hosts)

-- whether a report of that boot and sequence number may be taken; of a host that isn't there nothing is said
abbrev pub heard_check : ℕ → ℕ → Option HostRow → Result ⊤ HeardRefusal
heard_check boot seq None = Ok tt
heard_check boot seq (Some row) = if row.boot == boot then (if nat_lt row.seq seq then Ok tt else Err (Stale row.seq)) else Err (WrongBoot row.boot)

-- the farm's refusal of a report that isn't taken
abbrev pub of_heard : HeardRefusal → FarmFault
of_heard (WrongBoot boot) = Refused (refusal.WrongBoot boot)
of_heard (Stale last) = Refused (refusal.Stale last)
