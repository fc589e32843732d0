-- What changes of a host while it lives.
use Rattle.std.specs.Prelude.{ℕ, ◌&&◌, ◌-◌, Bool, nat_lt}
use Rattle.farm_types.specs.declared.limits.TheConstants.{SILENT_SECONDS}
use Rattle.farm_types.specs.declared.rows.HostRow.{HostRow}
use Rattle.farm_types.specs.Booking.{is_up}
use Rattle.host_book.specs.declared.life.HostLife.{HostLife}

-- the part of the host's row that reports, silence and locks change
abbrev pub life_of : HostRow → HostLife
life_of row = record { state = row.state; heard = row.heard; seq = row.seq; lock = row.lock }

abbrev pub with_life : HostLife → HostRow → HostRow
with_life life row = record row { state = life.state; heard = life.heard; seq = life.seq; lock = life.lock }

-- a host of that life is up, and the moment is more than so many seconds past the one when it was last heard
abbrev pub is_unheard_life : ℕ → HostLife → Bool
is_unheard_life moment life = is_up life.state && nat_lt SILENT_SECONDS (moment - life.heard)
