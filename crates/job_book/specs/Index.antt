-- What dispatch asks of the job book: which jobs are ready, and which frame of a layer waits first.
use Rattle.std.specs.Prelude.{ℕ, ◌≡◌, ◌≤◌, ◌<◌, ◌==◌, ◌&&◌, Bool, true, List, [], ◌∷◌, map, filter, nat_lt, Option, None, Some, slice_get, if◌then◌else◌}
use Rattle.farm_types.specs.declared.rows.JobRow.{JobRow}
use Rattle.farm_types.specs.declared.slot_row.SlotRow.{SlotRow}
use Rattle.farm_types.specs.declared.states.FrameState.TheVariants as frame_state
use Rattle.farm_types.specs.Booking.{is_pending, is_waiting}
use Rattle.farm_types.specs.Farm.{for_some, is_placed, slot_from}
use Rattle.farm_types.specs.Jobs.{JobLists}
use Rattle.job_book.specs.Book.{count_in}

-- ---- ready jobs

-- the job is of the show and pending, and one of its frames waits
abbrev pub is_ready : JobLists → ℕ → JobRow → Bool
is_ready b show j = j.show == show && (is_pending j.state && nat_lt 0 (count_in j.job frame_state.Waiting b.slots))

-- the job before the first of no higher priority
abbrev pub insert_job : JobRow → List JobRow → List JobRow
insert_job j [] = j ∷ []
insert_job j (k ∷ ks) = if nat_lt j.priority k.priority then k ∷ insert_job j ks else j ∷ k ∷ ks

-- jobs by priority, the highest first; those of one priority keep their order, which is that of their numbers
abbrev pub by_priority : List JobRow → List JobRow
by_priority [] = []
by_priority (j ∷ js) = insert_job j (by_priority js)

-- the numbers of the ready jobs of a show, by priority, the highest first, then by number
abbrev pub ready_of : JobLists → ℕ → List ℕ
ready_of b show = map (λ (j : JobRow). j.job) (by_priority (filter (is_ready b show) b.jobs))

-- ---- waiting frames

-- the slot of the frame at a position of a job's layer
abbrev pub slot_of : JobLists → ℕ → ℕ → ℕ → Option ℕ
slot_of b job layer position = slot_from 0 (is_placed job layer position) b.slots

-- the slot's frame waits
abbrev pub waits_in : List SlotRow → ℕ → Bool
waits_in slots slot = for_some (slice_get slots slot) (λ (s : SlotRow). for_some s.frame (λ x. is_waiting x.state))

-- a slot's number, where its frame waits
abbrev pub where_waits : List SlotRow → Option ℕ → Option ℕ
where_waits slots None = None
where_waits slots (Some slot) = if waits_in slots slot then Some slot else None

-- no frame of the layer waits at that position
abbrev pub NoneWaits : JobLists → ℕ → ℕ → ℕ → Type 0
NoneWaits b job layer position = where_waits b.slots (slot_of b job layer position) ≡ None

-- the slot's frame waits, and no frame of the layer waits from the one position on up to its own
pub record IsFirstWaiting (b : JobLists) (job layer from slot : ℕ) : Type 0 where
  pub position : ℕ
  pub from_there : from ≤ position
  pub stands : slot_of b job layer position ≡ Some slot
  pub waits : waits_in b.slots slot ≡ true
  pub none_before : (k : ℕ) → from ≤ k → k < position → NoneWaits b job layer k

-- the first waiting frame of the layer at the position or later, or none where there is none
abbrev pub WaitsFirst : JobLists → ℕ → ℕ → ℕ → Option ℕ → Type 0
WaitsFirst b job layer from None = (k : ℕ) → from ≤ k → NoneWaits b job layer k
WaitsFirst b job layer from (Some slot) = IsFirstWaiting b job layer from slot
