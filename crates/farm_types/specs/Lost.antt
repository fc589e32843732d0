-- Attempts that are lost with their host.
use Rattle.std.specs.Prelude.{ℕ, List, map, filter, length, Bool, None, option_map, if◌then◌else◌}
use Rattle.farm_types.specs.declared.attempt.ProcRow.{ProcRow}
use Rattle.farm_types.specs.declared.slot_row.Frame.{Frame}
use Rattle.farm_types.specs.declared.slot_row.SlotRow.{SlotRow}
use Rattle.farm_types.specs.declared.states.FrameState.TheVariants as frame_state
use Rattle.farm_types.specs.Farm.{for_some}

-- the slot without its attempt: its frame waits again, its retries and the version unchanged
abbrev pub lost_row : SlotRow → SlotRow
lost_row s = record { version = s.version; frame = option_map (λ (frame : Frame). record frame { state = frame_state.Waiting }) s.frame; proc = None }

-- the slot has a live attempt on a host that passes the test
abbrev pub runs_on : (ℕ → Bool) → SlotRow → Bool
runs_on test s = for_some s.proc (λ (p : ProcRow). test p.host)

-- the slots without the attempts on such hosts
abbrev pub lose_on : (ℕ → Bool) → List SlotRow → List SlotRow
lose_on test slots = map (λ s. if runs_on test s then lost_row s else s) slots

-- how many attempts are on such hosts
abbrev pub count_on : (ℕ → Bool) → List SlotRow → ℕ
count_on test slots = length (filter (runs_on test) slots)
