-- Farms that reports and boots come to, but for the row that owns texts.
use Rattle.std.specs.Prelude.{ℕ, Option, None, Some, slice_get, if◌then◌else◌}
use Rattle.farm_types.specs.declared.boot.BootLine.{BootLine}
use Rattle.farm_types.specs.declared.entry.HeardAct.{HeardAct}
use Rattle.farm_types.specs.declared.rows.HostRow.{HostRow}
use Rattle.farm_types.specs.Farm.{Farm, changed_at, host_named}
use Rattle.farm_types.specs.Hosts.{heard_row, is_same_life}
use Rattle.farm_types.specs.Step.{end_all, slots_at_boot}

-- the host was heard, and its completions ended attempts
abbrev pub heard_farm : Farm → ℕ → ℕ → HeardAct → Farm
heard_farm f host moment act = end_all (record f { hosts = changed_at f.hosts host (heard_row act.seq moment) }) host act.boot act.done

-- where a new life of a host begins, the attempts on it are lost
abbrev pub lives_ended : Farm → BootLine → Farm
lives_ended f line = record f { slots = slots_at_boot f line (host_named f line.host) }

-- the host, where the boot begins a new life of it
abbrev pub life_ends : BootLine → ℕ → Option HostRow → Option ℕ
life_ends line host None = None
life_ends line host (Some row) = if is_same_life line row then None else Some host

abbrev pub ending_life : Farm → BootLine → Option ℕ → Option ℕ
ending_life f line None = None
ending_life f line (Some host) = life_ends line host (slice_get f.hosts host)
