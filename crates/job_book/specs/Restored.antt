-- What a book is made of where its rows are given.
use Rattle.std.specs.Prelude.{ℕ, ◌≡◌, ◌≤◌, ◌==◌, ◌&&◌, Bool, List, [], ◌∷◌, ◌++◌, nat_lt, Option, None, Some, slice_get, if◌then◌else◌}
use Rattle.std.specs.List.{position_or_len}
use Rattle.farm_types.specs.declared.limits.TheConstants.{SLOT_LIMIT}
use Rattle.farm_types.specs.declared.rows.JobRow.{JobRow}
use Rattle.farm_types.specs.declared.rows.LayerRow.{LayerRow}
use Rattle.farm_types.specs.declared.slot_row.Frame.{Frame}
use Rattle.farm_types.specs.declared.slot_row.SlotRow.{SlotRow}
use Rattle.farm_types.specs.declared.states.FrameState.{FrameState}
use Rattle.farm_types.specs.Booking.{is_pending}
use Rattle.farm_types.specs.Farm.{changed_at}
use Rattle.farm_types.specs.Jobs.{JobLists}
use Rattle.job_entries.specs.declared.counts.Counts.{Counts}
use Rattle.job_entries.specs.Counting.{part, counted_in}
use Rattle.job_index.specs.Keys.{sorted}
use Rattle.job_book.specs.Ready.{ready_key}

-- the lists that these rows make
abbrev pub lists_in : List JobRow → List LayerRow → List SlotRow → ℕ → ℕ → JobLists
lists_in jobs layers slots next_job next_finish = record { jobs = jobs; layers = layers; slots = slots; next_job = next_job; next_finish = next_finish }

-- ---- counts

-- no state counts more frames than there are slots
abbrev pub HasFew : Counts → Type 0
HasFew c = (state : FrameState) → part state c ≤ SLOT_LIMIT

-- the counts of these jobs with one frame more
abbrev pub counted_frame : List JobRow → Option Frame → List Counts → List Counts
counted_frame rows None counts = counts
counted_frame rows (Some x) counts = changed_at counts (position_or_len (λ (j : JobRow). j.job == x.job) rows) (counted_in x.state)

-- ---- keys

-- a job of the show that is pending, with its counts, of which a frame waits
abbrev pub is_ready_by : ℕ → JobRow → Counts → Bool
is_ready_by show j c = j.show == show && (is_pending j.state && nat_lt 0 c.waiting)

-- the keys of the show's ready jobs, by the counts beside them
abbrev pub keys_beside : ℕ → List JobRow → List Counts → List ℕ
keys_beside show [] counts = []
keys_beside show (j ∷ js) [] = []
keys_beside show (j ∷ js) (c ∷ cs) = if is_ready_by show j c then ready_key j ∷ keys_beside show js cs else keys_beside show js cs

-- each list has the keys of its show's ready jobs, in the order of their numbers
abbrev pub AreBeside : List JobRow → List Counts → List (List ℕ) → Type 0
AreBeside rows counts lists = (show : ℕ) (ks : List ℕ) → slice_get lists show ≡ Some ks → ks ≡ keys_beside show rows counts

-- each list has these keys in order
abbrev pub AreSorted : List JobRow → List Counts → List (List ℕ) → Type 0
AreSorted rows counts lists = (show : ℕ) (ks : List ℕ) → slice_get lists show ≡ Some ks → ks ≡ sorted (keys_beside show rows counts)

-- the keys of all shows, with that of a job, where it is ready
abbrev pub with_ready : JobRow → Counts → List (List ℕ) → List (List ℕ)
with_ready j c lists = if is_pending j.state && nat_lt 0 c.waiting then changed_at lists j.show (λ (ks : List ℕ). ks ++ ready_key j ∷ []) else lists
