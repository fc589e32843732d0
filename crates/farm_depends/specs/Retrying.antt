-- What follows a frame that is retried.
use Rattle.std.specs.Prelude.{ℕ, ◌≡◌, ◌&&◌, ◌∷◌, [], Bool, false, List, Option, None, Some, Result, Ok, Err, is_some, nat_lt, slice_get, if◌then◌else◌}
use Rattle.farm_types.specs.declared.entry.FramePlace.{FramePlace}
use Rattle.farm_types.specs.declared.slot_row.SlotRow.{SlotRow}
use Rattle.farm_types.specs.DependActs.{place_refusal}
use Rattle.farm_types.specs.Depends.{is_done}
use Rattle.farm_types.specs.Farm.{for_some}
use Rattle.farm_types.specs.Operators.{place_of, slot_named}
use Rattle.depend_graph.specs.Graph.{Watch, no_marks, unmet_of}
use Rattle.farm_books.specs.Books.{FarmBooks}
use Rattle.farm_types.specs.declared.fault.FarmFault.{FarmFault}
use Rattle.farm_types.specs.declared.fault.FarmFault.TheVariants.{Refused, NoMemory}
use Rattle.farm_depends.specs.declared.follow.Follow.{Follow}

-- the slot, where its frame is done
abbrev pub reopened_at : List SlotRow → ℕ → Option ℕ
reopened_at slots slot = if is_done slots slot then Some slot else None

abbrev pub has_frame : List SlotRow → ℕ → Bool
has_frame slots slot = for_some (slice_get slots slot) (λ (s : SlotRow). is_some s.frame)

-- the slot has a frame, which waits in groups that aren't met
abbrev pub is_shut : List SlotRow → List Watch → ℕ → Bool
is_shut slots watches slot = has_frame slots slot && nat_lt 0 (unmet_of watches slot)

-- the slot alone, where it has such a frame
abbrev pub shut_at : List SlotRow → List Watch → ℕ → List ℕ
shut_at slots watches slot = if is_shut slots watches slot then slot ∷ [] else []

-- the frame isn't done any more where it was, and is blocked where it waits in groups that aren't met
abbrev pub follow_retry : List SlotRow → List Watch → ℕ → Follow
follow_retry slots watches slot =
    record {
      depends = [];
      spares = [];
      dropped = None;
      done = [];
      marks = no_marks;
      reopened = reopened_at slots slot;
      opened = [];
      blocked = shut_at slots watches slot;
      raises = false;
      count = 0;
    }

-- what follows the retry of the frame that is named, or exactly what is refused of it
abbrev pub Retries : FarmBooks → FramePlace → Result Follow FarmFault → Type 0
Retries v p (Ok w) = (slot : ℕ) × (slot_named v.farm p ≡ Some slot) × (w ≡ follow_retry v.farm.slots v.graph.depends slot)
Retries v p (Err (Refused why)) = place_refusal v.farm (place_of p) ≡ Some why
Retries v p (Err NoMemory) = Unit {0}
