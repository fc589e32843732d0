-- What the book of hosts keeps true of its fields.
use Rattle.std.specs.Prelude.{ℕ, ◌≡◌, ◌≤◌, ◌<◌, ◌+◌, ◌-◌, min, List, map, length, Bool, false, nat_lt, string_bytes, Option, None, Some, if◌then◌else◌}
use Rattle.std.specs.List.{All, fold}
use Rattle.std.specs.Vec.{vec_capacity}
use Rattle.indexmap.specs.IndexSet.{spare}
use Rattle.farm_types.specs.declared.boot.BootLine.{BootLine}
use Rattle.farm_types.specs.declared.rows.HostRow.{HostRow}
use Rattle.farm_types.specs.Booking.{is_up}
use Rattle.farm_types.specs.Hosts.{is_same_life}
use Rattle.host_book.specs.declared.hosts.Hosts.TheInside.{Inside}
use Rattle.host_book.specs.declared.life.HostLife.{HostLife}
use Rattle.farm_types.specs.declared.limits.TheConstants.{LAST_BOOT, MOST_HOSTS, SILENT_SECONDS}

abbrev pub name_of : HostRow → List ℕ
name_of row = row.name

-- the greatest moment, which no moment is past
abbrev pub never_past : ℕ
never_past = 18446744073709551615

-- the moment when the host was last heard, while it is up
abbrev pub watched_of : HostRow → ℕ
watched_of row = if is_up row.state then row.heard else never_past

-- the same of a host's life
abbrev pub watched_in : HostLife → ℕ
watched_in life = if is_up life.state then life.heard else never_past

-- the moment is more than so many seconds past the other one
abbrev pub is_past : ℕ → ℕ → Bool
is_past moment heard = nat_lt SILENT_SECONDS (moment - heard)

-- no moment is before the bound
abbrev pub AllSince : ℕ → List ℕ → Type 0
AllSince bound moments = All (λ heard. bound ≤ heard) moments

-- the least moment, and the greatest number where there is none
abbrev pub least_of : List ℕ → ℕ
least_of moments = fold min never_past moments

-- a host that boots into a new life has a boot number that can rise
abbrev pub CanBoot : BootLine → Option HostRow → Type 0
CanBoot line None = Unit {0}
CanBoot line (Some row) = is_same_life line row ≡ false → row.boot < LAST_BOOT

-- The names stand in the order of the rows, so that the index of a name is its host's number, what is watched is read of the rows
-- and isn't before the bound, and there is capacity for all hosts.
pub record KeepsHosts (book : Inside) : Type 0 where
  pub count : length book.rows.items ≤ MOST_HOSTS
  pub names_are : map string_bytes book.names.keys ≡ map name_of book.rows.items
  pub watched_are : book.watched.items ≡ map watched_of book.rows.items
  pub since_oldest : AllSince book.oldest book.watched.items
  pub rows_capacity : MOST_HOSTS ≤ vec_capacity book.rows
  pub names_capacity : MOST_HOSTS ≤ length book.names.keys + spare book.names
  pub watched_capacity : MOST_HOSTS ≤ vec_capacity book.watched
