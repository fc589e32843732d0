-- The frame that a place names, and what its state refuses.
use Rattle.std.specs.Prelude.{ℕ, ℤ, ◌≡◌, Bool, List, Option, None, Some, Result, Ok, Err, slice_get, if◌then◌else◌}
use Rattle.std.specs.Ordering.{int_eq}
use Rattle.farm_types.specs.declared.entry.FramePlace.{FramePlace}
use Rattle.farm_types.specs.declared.refusal.Refusal.{Refusal}
use Rattle.farm_types.specs.declared.refusal.Refusal.TheVariants.{WrongState}
use Rattle.farm_types.specs.declared.slot_row.SlotRow.{SlotRow}
use Rattle.farm_types.specs.declared.states.FrameState.{FrameState}
use Rattle.farm_types.specs.DependActs.{place_refusal}
use Rattle.farm_types.specs.Farm.{Farm}
use Rattle.farm_types.specs.Operators.{place_of, slot_named}
use Rattle.farm_types.specs.declared.fault.FarmFault.{FarmFault}
use Rattle.farm_types.specs.declared.fault.FarmFault.TheVariants.{Refused, NoMemory}
use Rattle.farm_places.specs.Ends.{number_at}

-- the slot of the frame that is named, or exactly what is refused of it
abbrev pub FindsFrame : Farm → FramePlace → Result ℕ FarmFault → Type 0
FindsFrame f p (Ok slot) = (place_refusal f (place_of p) ≡ None) × (slot_named f p ≡ Some slot)
FindsFrame f p (Err (Refused why)) = place_refusal f (place_of p) ≡ Some why
FindsFrame f p (Err NoMemory) = Unit {0}

-- the frame in a slot has the number
abbrev pub has_number_at : List SlotRow → ℤ → ℕ → Bool
has_number_at slots number slot = int_eq (number_at slots slot) number

-- the slot is one of these, and its frame has the number
pub record IsNumbered (slots : List SlotRow) (ss : List ℕ) (number : ℤ) (slot : ℕ) : Type 0 where
  pub place : ℕ
  pub at : slice_get ss place ≡ Some slot
  pub number_is : number_at slots slot ≡ number

-- what is refused of a frame in that state, where there is one
abbrev pub refusal_in : (FrameState → Bool) → Option FrameState → Option Refusal
refusal_in may None = None
refusal_in may (Some state) = if may state then None else Some (WrongState state)
