-- Which frames an act completes, and which of some are blocked.
use Rattle.std.specs.Prelude.{ℕ, ◌&&◌, Bool, not, List, map, filter, slice_get}
use Rattle.farm_types.specs.declared.entry.Act.{Act}
use Rattle.farm_types.specs.declared.entry.Act.TheVariants as act
use Rattle.farm_types.specs.declared.slot_row.SlotRow.{SlotRow}
use Rattle.farm_types.specs.Depends.{is_done_state}
use Rattle.farm_types.specs.Farm.{for_some}
use Rattle.farm_types.specs.Settle.{is_blocked}
use Rattle.farm_draft.specs.Rows.{slot_of}
use Rattle.farm_draft.specs.declared.slot_change.SlotChange.{SlotChange}
use Rattle.depend_graph.specs.Graph.{is_flagged}
use Rattle.farm_depends.specs.Follow.{is_listed}

-- the act may complete frames
abbrev pub IsCompleting : Act → Type 0
IsCompleting (act.Heard heard) = Unit {0}
IsCompleting (act.KillJob job) = Unit {0}
IsCompleting (act.EatFrame p) = Unit {0}
IsCompleting other = ⊥

abbrev pub is_done_row : SlotRow → Bool
is_done_row s = for_some s.frame (λ x. is_done_state x.state)

abbrev pub is_blocked_row : SlotRow → Bool
is_blocked_row s = for_some s.frame (λ x. is_blocked x.state)

-- the frame in the slot is done and wasn't
abbrev pub completes : SlotChange → Bool
completes c = is_done_row c.row && not (is_done_row c.was)

-- the slots of such changes, in order
abbrev pub newly_done : List SlotChange → List ℕ
newly_done rows = map slot_of (filter completes rows)

-- the frame in the slot is done and was blocked
abbrev pub is_eaten : SlotChange → Bool
is_eaten c = is_done_row c.row && is_blocked_row c.was

abbrev pub newly_eaten : List SlotChange → List ℕ
newly_eaten rows = map slot_of (filter is_eaten rows)

-- the frame in the slot is blocked
abbrev pub is_blocked_in : List SlotRow → ℕ → Bool
is_blocked_in slots slot = for_some (slice_get slots slot) is_blocked_row

abbrev pub blocked_among : List SlotRow → List ℕ → List ℕ
blocked_among slots list = filter (is_blocked_in slots) list

-- the frame in the slot is blocked, and isn't among those that are done
abbrev pub is_left_blocked : List SlotRow → List ℕ → ℕ → Bool
is_left_blocked slots done slot = is_blocked_in slots slot && not (is_listed done slot)

abbrev pub left_blocked : List SlotRow → List ℕ → List ℕ → List ℕ
left_blocked slots done list = filter (is_left_blocked slots done) list

-- the slots that have no mark
abbrev pub unmarked_among : List Bool → List ℕ → List ℕ
unmarked_among marks list = filter (λ slot. not (is_flagged marks slot)) list
