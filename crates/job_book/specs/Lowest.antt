-- The lowest free slots, and frames in slots that were found.
use Rattle.std.specs.Prelude.{ℕ, zero, suc, ◌+◌, ◌<◌, ◌≤◌, max, List, [], ◌∷◌, ◌++◌, Option, None, Some, slice_get, slice_set, if◌then◌else◌}
use Rattle.farm_types.specs.declared.limits.TheConstants.{SLOT_LIMIT}
use Rattle.farm_types.specs.declared.slot_row.Frame.{Frame}
use Rattle.farm_types.specs.declared.slot_row.SlotRow.{SlotRow}
use Rattle.farm_types.specs.Jobs.{fresh_slot, is_free, slot_with}

-- ---- which slots

-- so many places from this one on
abbrev pub places_from : ℕ → ℕ → List ℕ
places_from place zero = []
places_from place (suc count) = place ∷ places_from (place + 1) count

-- the places of the first so many free slots, which are counted from a place: those that were used before, and then those that never were
abbrev pub lowest_free : ℕ → List SlotRow → ℕ → List ℕ
lowest_free place [] count = places_from place count
lowest_free place (s ∷ ss) zero = []
lowest_free place (s ∷ ss) (suc count) = if is_free s then place ∷ lowest_free (place + 1) ss count else lowest_free (place + 1) ss (suc count)

-- ---- frames in them

-- the row of a slot that gets a frame
abbrev pub slot_for : Frame → Option SlotRow → SlotRow
slot_for x None = fresh_slot x
slot_for x (Some s) = slot_with x s

-- the row that stands at a place is set, or goes behind the others where none stands there
abbrev pub row_set : ℕ → SlotRow → Option SlotRow → List SlotRow → List SlotRow
row_set place row None slots = slots ++ row ∷ []
row_set place row (Some s) slots = slice_set slots place row

-- the slots with a frame in one of them
abbrev pub with_frame : ℕ → Frame → List SlotRow → List SlotRow
with_frame place x slots = row_set place (slot_for x (slice_get slots place)) (slice_get slots place) slots

-- the frames are put into these slots, one after another
abbrev pub filled : List ℕ → List Frame → List SlotRow → List SlotRow
filled [] frames slots = slots
filled (p ∷ ps) [] slots = slots
filled (p ∷ ps) (x ∷ xs) slots = filled ps xs (with_frame p x slots)

-- each of these places is one of so many slots, or the next that never was used
abbrev pub AreNext : List ℕ → ℕ → Type 0
AreNext [] count = Unit {0}
AreNext (p ∷ ps) count = (p ≤ count) × (p < SLOT_LIMIT) × AreNext ps (max count (p + 1))

-- the place behind the last of these
abbrev pub behind : ℕ → List ℕ → ℕ
behind place [] = place
behind place (p ∷ ps) = behind (p + 1) ps
