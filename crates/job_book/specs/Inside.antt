-- What the job book keeps true of its fields.
use Rattle.std.specs.Prelude.{ℕ, ◌≡◌, ◌≤◌, ◌==◌, ◌&&◌, ◌||◌, ◌+◌, ◌*◌, List, map, drop, length, sum_by, Bool, true, not, nat_le, nat_lt, if◌then◌else◌}
use Rattle.std.specs.List.{list_all, list_any}
use Rattle.std.specs.Vec.{vec_capacity}
use Rattle.farm_types.specs.declared.rows.JobRow.{JobRow}
use Rattle.farm_types.specs.declared.rows.LayerRow.{LayerRow}
use Rattle.farm_types.specs.declared.slot_row.SlotRow.{SlotRow}
use Rattle.farm_types.specs.Booking.{is_pending}
use Rattle.farm_types.specs.Farm.{for_some}
use Rattle.farm_types.specs.Finish.{is_frame_of}
use Rattle.farm_types.specs.Jobs.{JobLists, free_among, free_in}
use Rattle.farm_types.specs.Rising.{IsRising, job_key}
use Rattle.job_entries.specs.declared.counts.Counts.{Counts}
use Rattle.job_book.specs.declared.jobs.Jobs.TheInside.{Inside}
use Rattle.job_book.specs.Book.{counts_of}
use Rattle.job_book.specs.Finished.{KeepsFinished, KeepsFinishes}
use Rattle.job_book.specs.Names.{KeepsNames}
use Rattle.job_book.specs.Ready.{KeepsReady}
use Rattle.job_book.specs.Layers.{KeepsLayers, KeepsWaiting, slots_of}
use Rattle.farm_types.specs.declared.limits.TheConstants.{LAST_JOB, SLOT_LIMIT}
use Rattle.job_book.specs.declared.jobs.TheConstants.{PLACE_LIMIT}

-- the lists of the book
abbrev pub book_of : Inside → JobLists
book_of book =
    record {
      jobs = book.entries.rows;
      layers = book.entries.layers;
      slots = book.slots.items;
      next_job = book.entries.next;
      next_finish = book.next_finish;
    }

-- layers are in the order of their jobs, those of a job by their places
abbrev pub layer_key : LayerRow → ℕ
layer_key l = PLACE_LIMIT * l.job + l.place

-- the slot has no frame of a job of that number or a later one
abbrev pub is_below : ℕ → SlotRow → Bool
is_below next s = not (for_some s.frame (λ x. nat_le next x.job))

-- the counts of the jobs, in their order
abbrev pub counts_for : List JobRow → List SlotRow → List Counts
counts_for jobs slots = map (λ (j : JobRow). counts_of j.job slots) jobs

abbrev pub has_begun : JobRow → Bool
has_begun j = is_pending j.state

-- how many slots have a frame of the job
abbrev pub taken_by : ℕ → List SlotRow → ℕ
taken_by job slots = sum_by (λ (s : SlotRow). if is_frame_of job s then 1 else 0) slots

-- the frames of a job that is pending
abbrev pub frames_left : JobRow → ℕ
frames_left j = if is_pending j.state then j.frames else 0

-- a pending job has a frame, and a slot for each of its frames at most; another one has none
abbrev pub has_slots : List SlotRow → JobRow → Bool
has_slots slots j = if is_pending j.state then nat_lt 0 j.frames && nat_le (taken_by j.job slots) j.frames else taken_by j.job slots == 0

-- a job that isn't pending has no layers
abbrev pub has_layers_if : List LayerRow → JobRow → Bool
has_layers_if layers j = is_pending j.state || not (list_any (λ (l : LayerRow). l.job == j.job) layers)

-- Jobs and layers are in order, layers are of pending jobs, frames are of jobs that were placed, and the frames of the pending
-- jobs fit into the slots that aren't free.
pub record IsBook (b : JobLists) : Type 0 where
  pub slot_count : length b.slots ≤ SLOT_LIMIT
  pub next_within : b.next_job ≤ LAST_JOB + 1
  pub jobs_rise : IsRising job_key 0 b.jobs b.next_job
  pub layers_rise : IsRising layer_key 0 b.layers (PLACE_LIMIT * b.next_job)
  pub layers_owned : list_all (has_layers_if b.layers) b.jobs ≡ true
  pub frames_below : list_all (is_below b.next_job) b.slots ≡ true
  pub slots_had : list_all (has_slots b.slots) b.jobs ≡ true
  pub jobs_fit : sum_by frames_left b.jobs + free_in b.slots ≤ SLOT_LIMIT

-- so many slots are free, and none of those below the lowest one
pub record KeepsFree (free lowest : ℕ) (slots : List SlotRow) : Type 0 where
  pub free_is : free ≡ free_in slots
  pub within : lowest ≤ length slots
  pub none_below : free_among (drop lowest slots) ≡ free_among slots

-- finishes have their numbers; the names, the counts, the finished jobs and the free slots that are kept are those of the jobs and
-- the slots, and there is capacity for all slots
pub record KeepsBook (book : Inside) : Type 0 where
  pub lists : IsBook (book_of book)
  pub names : KeepsNames book.names.pairs book.entries.rows
  pub finishes : KeepsFinishes book.entries.rows book.entries.next book.next_finish
  pub finished : KeepsFinished book.entries.rows book.finished
  pub free : KeepsFree book.free book.lowest book.slots.items
  pub layers : KeepsLayers book.entries.layers book.slots.items (map slots_of book.entries.index)
  pub waiting : KeepsWaiting book.slots.items book.entries.index
  pub ready : KeepsReady book.entries.rows book.slots.items book.ready.items
  pub counts_are : book.entries.counts ≡ counts_for book.entries.rows book.slots.items
  pub slots_capacity : SLOT_LIMIT ≤ vec_capacity book.slots
