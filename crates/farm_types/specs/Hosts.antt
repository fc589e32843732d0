-- Hosts: how they boot, are heard, and go down when they aren't.
use Rattle.std.specs.Prelude.{ℕ, ◌==◌, ◌&&◌, ◌+◌, ◌-◌, List, [], ◌∷◌, ◌++◌, map, filter, length, Bool, Option, None, Some, nat_lt, if◌then◌else◌}
use Rattle.farm_types.specs.declared.boot.BootLine.{BootLine}
use Rattle.farm_types.specs.declared.rows.HostRow.{HostRow}
use Rattle.farm_types.specs.declared.states.HostState.TheVariants as host_state
use Rattle.farm_types.specs.declared.states.LockState.{LockState}
use Rattle.farm_types.specs.declared.states.LockState.TheVariants as lock_state
use Rattle.farm_types.specs.Booking.{is_up}
use Rattle.farm_types.specs.Farm.{changed_at, host_from}
use Rattle.farm_types.specs.declared.limits.TheConstants.{SILENT_SECONDS}

-- ---- one host

-- the host is up and was heard at the moment
abbrev pub heard_row : ℕ → ℕ → HostRow → HostRow
heard_row seq moment row = record row { seq = seq; heard = moment; state = host_state.Up }

-- a host that is up counts as heard at the moment
abbrev pub reopened_row : ℕ → HostRow → HostRow
reopened_row moment row = if is_up row.state then record row { heard = moment } else row

abbrev pub locked_row : LockState → HostRow → HostRow
locked_row lock row = record row { lock = lock }

-- the host is up, and the moment is more than so many seconds past the one when it was last heard
abbrev pub is_unheard : ℕ → HostRow → Bool
is_unheard moment row = is_up row.state && nat_lt SILENT_SECONDS (moment - row.heard)

abbrev pub down_row : HostRow → HostRow
down_row row = record row { state = host_state.Down }

-- an unheard host goes down
abbrev pub silenced_row : ℕ → HostRow → HostRow
silenced_row moment row = if is_unheard moment row then down_row row else row

abbrev pub silenced : ℕ → List HostRow → List HostRow
silenced moment hosts = map (silenced_row moment) hosts

-- how many hosts are unheard
abbrev pub count_unheard : ℕ → List HostRow → ℕ
count_unheard moment hosts = length (filter (is_unheard moment) hosts)

-- ---- boots

-- a host that boots for the first time
abbrev pub new_host : BootLine → ℕ → ℕ → HostRow
new_host line alloc moment =
    record {
      name = line.host;
      alloc = alloc;
      tags = line.tags;
      cores = line.cores;
      memory = line.memory;
      boot = 1;
      nonce = line.nonce;
      seq = 0;
      heard = moment;
      lock = lock_state.Unlocked;
      state = host_state.Up;
    }

-- The same life of a host boots once more: it was heard, and nothing else changes.
abbrev pub again_row : ℕ → HostRow → HostRow
again_row moment row = record row { heard = moment; state = host_state.Up }

-- A new life of a host boots: its boot number rises, its tags and amounts are those of the boot, and its lock stays.
abbrev pub reborn_row : BootLine → ℕ → HostRow → HostRow
reborn_row line moment row =
    record row { tags = line.tags; cores = line.cores; memory = line.memory; boot = row.boot + 1; nonce = line.nonce; seq = 0; heard = moment; state = host_state.Up }

-- the boot is of the host's life that is known
abbrev pub is_same_life : BootLine → HostRow → Bool
is_same_life line row = row.nonce == line.nonce

abbrev pub booted_row : BootLine → ℕ → HostRow → HostRow
booted_row line moment row = if is_same_life line row then again_row moment row else reborn_row line moment row

-- the hosts after a boot, by the number of the host of that name
abbrev pub booted_at : List HostRow → BootLine → ℕ → ℕ → Option ℕ → List HostRow
booted_at hosts line alloc moment None = hosts ++ new_host line alloc moment ∷ []
booted_at hosts line alloc moment (Some host) = changed_at hosts host (booted_row line moment)

abbrev pub booted : List HostRow → BootLine → ℕ → ℕ → List HostRow
booted hosts line alloc moment = booted_at hosts line alloc moment (host_from 0 line.host hosts)
