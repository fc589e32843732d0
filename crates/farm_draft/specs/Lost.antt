-- What is lost with one host.
use Rattle.std.specs.Prelude.{ℕ, ◌==◌, Bool, if◌then◌else◌}
use Rattle.farm_types.specs.declared.slot_row.SlotRow.{SlotRow}
use Rattle.farm_types.specs.Farm.{Farm, changed_at}
use Rattle.farm_types.specs.Hosts.{silenced_row}
use Rattle.farm_types.specs.Lost.{lose_on, lost_row, runs_on}
use Rattle.farm_types.specs.Step.{is_silent}

-- the slot, without its attempt where that is on such a host
abbrev pub lost_where : (ℕ → Bool) → SlotRow → SlotRow
lost_where test s = if runs_on test s then lost_row s else s

-- the host goes down, if it is silent, and the attempts on it are lost
abbrev pub expired_one : Farm → ℕ → ℕ → Farm
expired_one f moment host =
    record f { hosts = changed_at f.hosts host (silenced_row moment); slots = if is_silent f moment host then lose_on (λ n. n == host) f.slots else f.slots }
