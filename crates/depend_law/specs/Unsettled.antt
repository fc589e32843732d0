-- What a farm keeps of depends while it isn't settled yet.
use Rattle.std.specs.Prelude.{ℕ, ◌≡◌, ◌≤◌, ◌+◌, ◌&&◌, true, false, not, length, Some, slice_get}
use Rattle.std.specs.List.{list_all}
use Rattle.farm_types.specs.declared.slot_row.SlotRow.{SlotRow}
use Rattle.farm_types.specs.Booking.{is_waiting}
use Rattle.farm_types.specs.DependActs.{is_running}
use Rattle.farm_types.specs.Depends.{groups_left, is_open}
use Rattle.farm_types.specs.Farm.{Farm, for_some}
use Rattle.farm_types.specs.Kept.{has_no_self_depend, is_formed_depend, is_kept_depend}
use Rattle.farm_types.specs.Rising.{IsRising, depend_key}
use Rattle.farm_types.specs.declared.limits.TheConstants.{LAST_DEPEND, MOST_DEPENDS, MOST_GROUPS}

-- Depends in the order of their numbers, within their limits and forms, with their ends, and none in which a frame waits for itself. Each frame that runs is open.
pub record Unsettled (f : Farm) : Type 0 where
  pub next_within : f.next_depend ≤ LAST_DEPEND + 1
  pub rise : IsRising depend_key 1 f.depends f.next_depend
  pub count : length f.depends ≤ MOST_DEPENDS
  pub groups_within : groups_left f ≤ MOST_GROUPS
  pub formed : list_all is_formed_depend f.depends ≡ true
  pub ends_there : list_all (is_kept_depend f) f.depends ≡ true
  pub no_self_depends : list_all (has_no_self_depend f) f.depends ≡ true
  pub running_open : (slot : ℕ) (s : SlotRow) → slice_get f.slots slot ≡ Some s → (for_some s.frame (λ x. is_running x.state) && not (is_open f slot)) ≡ false

-- each frame that waits is open
abbrev pub WaitingOpen : Farm → Type 0
WaitingOpen f = (slot : ℕ) (s : SlotRow) → slice_get f.slots slot ≡ Some s → (for_some s.frame (λ x. is_waiting x.state) && not (is_open f slot)) ≡ false
