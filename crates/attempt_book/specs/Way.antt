-- The way along a host's own attempts, as it stands by host and by slot.
use Rattle.std.specs.Prelude.{ℕ, ◌≡◌, ◌≤◌, ◌<◌, ◌-◌, ◌==◌, List, Option, None, Some, slice_get, slice_set, if◌then◌else◌}
use Rattle.farm_types.specs.declared.attempt.ProcRow.{ProcRow}
use Rattle.farm_types.specs.declared.limits.TheConstants.{SLOT_LIMIT}
use Rattle.farm_types.specs.Sums.{total_at}
use Rattle.attempt_book.specs.Book.{first_on}

-- a slot as it stands on the way, where the mark past the last slot is the way's end
abbrev pub mark_of : Option ℕ → ℕ
mark_of None = SLOT_LIMIT
mark_of (Some slot) = slot

abbrev pub slot_of : ℕ → Option ℕ
slot_of mark = if mark == SLOT_LIMIT then None else Some mark

-- the slot that stands at a place, none past the last place
abbrev pub slot_in : Option ℕ → Option ℕ
slot_in None = None
slot_in (Some mark) = slot_of mark

-- the mark of the first slot with a live attempt on the host, at a slot or after it
abbrev pub mark_on : List (Option ProcRow) → ℕ → ℕ → ℕ
mark_on procs host from = mark_of (first_on procs host from)

-- The slots from this one up to the other are without the host's attempts, and right before it is one, or no slot at all.
pub record IsJoin (procs : List (Option ProcRow)) (host slot from : ℕ) : Type 0 where
  pub within : from ≤ slot
  pub behind : 0 < from → (p : ProcRow) × (slice_get procs (from - 1) ≡ Some (Some p)) × (p.host ≡ host)
  pub nearest : slot ≤ mark_on procs host from

-- where the way goes from there, and the places once it goes on to that mark
abbrev pub way_at : List ℕ → List ℕ → ℕ → ℕ → ℕ
way_at first next host from = if from == 0 then total_at first host else total_at next (from - 1)

abbrev pub first_to : List ℕ → ℕ → ℕ → ℕ → List ℕ
first_to first host from mark = if from == 0 then slice_set first host mark else first

abbrev pub next_to : List ℕ → ℕ → ℕ → List ℕ
next_to next from mark = if from == 0 then next else slice_set next (from - 1) mark
