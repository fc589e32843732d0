-- What live attempts use, added up anew each time.
use Rattle.std.specs.Prelude.{ℕ, ◌==◌, ◌&&◌, Bool, List, Option, None, Some, is_some, sum_by, slice_get, if◌then◌else◌}
use Rattle.farm_types.specs.declared.attempt.ProcRow.{ProcRow}
use Rattle.farm_types.specs.declared.slot_row.SlotRow.{SlotRow}
use Rattle.farm_types.specs.declared.rows.LayerRow.{LayerRow}
use Rattle.farm_types.specs.Farm.{Farm, for_some, layer_in}

-- the cores and the memory that a live attempt uses on a host
abbrev pub cores_on : ℕ → Option ProcRow → ℕ
cores_on host None = 0
cores_on host (Some p) = if p.host == host then p.cores else 0

abbrev pub memory_on : ℕ → Option ProcRow → ℕ
memory_on host None = 0
memory_on host (Some p) = if p.host == host then p.memory else 0

-- the cores that a live attempt uses of a subscription
abbrev pub cores_in : ℕ → Option ProcRow → ℕ
cores_in sub None = 0
cores_in sub (Some p) = if p.sub == sub then p.cores else 0

-- what the live attempts on a host use: cores and memory
abbrev pub used_cores : Farm → ℕ → ℕ
used_cores f host = sum_by (λ (s : SlotRow). cores_on host s.proc) f.slots

abbrev pub used_memory : Farm → ℕ → ℕ
used_memory f host = sum_by (λ (s : SlotRow). memory_on host s.proc) f.slots

abbrev pub used_on : Farm → ℕ → ℕ × ℕ
used_on f host = (used_cores f host, used_memory f host)

-- the cores that are booked of a subscription
abbrev pub booked_in : Farm → ℕ → ℕ
booked_in f sub = sum_by (λ (s : SlotRow). cores_in sub s.proc) f.slots

-- whether the layer has the limit of that number
abbrev pub has_limit : ℕ → LayerRow → Bool
has_limit limit l = for_some l.limit (λ n. n == limit)

-- the slot has a live attempt, and the layer of its frame has the limit
abbrev pub runs_under : List LayerRow → ℕ → SlotRow → Bool
runs_under layers limit s = is_some s.proc && for_some s.frame (λ x. for_some (layer_in layers x.job x.layer) (has_limit limit))

-- how many live attempts count in a limit
abbrev pub running_among : List LayerRow → ℕ → List SlotRow → ℕ
running_among layers limit slots = sum_by (λ (s : SlotRow). if runs_under layers limit s then 1 else 0) slots

abbrev pub running_in : Farm → ℕ → ℕ
running_in f limit = running_among f.layers limit f.slots

-- ---- kept totals

abbrev pub total_in : Option ℕ → ℕ
total_in None = 0
total_in (Some total) = total

-- the total at a place of a list, 0 past the last
abbrev pub total_at : List ℕ → ℕ → ℕ
total_at totals place = total_in (slice_get totals place)
