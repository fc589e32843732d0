-- Attempts of a farm: those that are over, and those of one host.
use Rattle.std.specs.Prelude.{ℕ, ◌≡◌, ◌≤◌, ◌<◌, ◌⊎◌, List, length, None, Some, slice_get}
use Rattle.farm_types.specs.declared.attempt.Attempt.{Attempt}
use Rattle.farm_types.specs.declared.attempt.ProcRow.{ProcRow}
use Rattle.farm_types.specs.declared.slot_row.SlotRow.{SlotRow}
use Rattle.farm_types.specs.Booking.{version_at}
use Rattle.farm_types.specs.Farm.{Farm, host_named}
use Rattle.farm_types.specs.Run.{live_at}

-- The slot's version is past the attempt's, or the slot is without a live attempt at that version: the attempt will never be live again.
abbrev pub IsSpentAt : Attempt → SlotRow → Type 0
IsSpentAt a s = (a.version < s.version) ⊎ ((a.version ≡ s.version) × (s.proc ≡ None))

abbrev pub IsSpent : Farm → Attempt → Type 0
IsSpent f a = (a.slot < length f.slots) × ((s : SlotRow) → slice_get f.slots a.slot ≡ Some s → IsSpentAt a s)

-- the slot came to the attempt's version, and if the attempt is live, it is so on the host of that name
pub record IsOwn (f : Farm) (name : List ℕ) (a : Attempt) : Type 0 where
  pub slot : a.slot < length f.slots
  pub reached : a.version ≤ version_at f a.slot
  pub here : (p : ProcRow) → live_at f a.slot ≡ Some p → p.version ≡ a.version → host_named f name ≡ Some p.host
