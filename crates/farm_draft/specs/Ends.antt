-- Slots whose attempts only end.
use Rattle.std.specs.Prelude.{ℕ, ◌≡◌, Bool, true, false, List, Some, None, IsSome, slice_get}
use Rattle.farm_types.specs.declared.slot_row.SlotRow.{SlotRow}
use Rattle.job_book.specs.Book.{IsSameFrame}

-- the row as it was, or with the frame that stood there and without an attempt
abbrev pub IsEndOf : Bool → SlotRow → SlotRow → Type 0
IsEndOf true old new = new ≡ old
IsEndOf false old new = IsSameFrame old.frame new.frame × (new.proc ≡ None)

abbrev pub MayEnd : SlotRow → SlotRow → Type 0
MayEnd old new = (same : Bool) × IsEndOf same old new

-- each row of the second list is so of the one at its place in the first
abbrev pub OnlyEnds : List SlotRow → List SlotRow → Type 0
OnlyEnds olds news = (i : ℕ) (new : SlotRow) → slice_get news i ≡ Some new → (old : SlotRow) × (slice_get olds i ≡ Some old) × MayEnd old new

-- each slot with an attempt has a frame
abbrev pub AreFramed : List SlotRow → Type 0
AreFramed slots = (i : ℕ) (s : SlotRow) → slice_get slots i ≡ Some s → IsSome s.proc → IsSome s.frame
