-- The places of jobs: each holds the job of its number, or none any more.
use Rattle.std.specs.Prelude.{ℕ, ◌≡◌, ◌≤◌, ◌==◌, ◌&&◌, ◌+◌, ◌++◌, Bool, true, not, List, [], ◌∷◌, filter, map, length}
use Rattle.std.specs.Prelude.{flat_map, option_map, is_some, slice_get, Option, None, Some, if◌then◌else◌}
use Rattle.std.specs.List.{list_all, position_or_len}
use Rattle.farm_types.specs.declared.rows.JobRow.{JobRow}
use Rattle.farm_types.specs.declared.rows.LayerRow.{LayerRow}
use Rattle.farm_types.specs.declared.states.FrameState.{FrameState}
use Rattle.farm_types.specs.declared.states.JobState.TheVariants as job_state
use Rattle.farm_types.specs.Farm.{changed_at, for_any}
use Rattle.farm_types.specs.Rising.{IsRising}
use Rattle.job_entries.specs.declared.counts.Counts.{Counts}
use Rattle.job_entries.specs.declared.entries.At.{At}
use Rattle.job_entries.specs.declared.entries.Place.{Place}
use Rattle.job_entries.specs.declared.entries.TheConstants.{MOST_PLACES}
use Rattle.job_entries.specs.Counting.{moved, new_counts}
use Rattle.job_index.specs.Places.{LayerPlaces, marked}
use Rattle.job_entries.specs.OneJob.{AllJobs, OneJob}

-- ---- all jobs

abbrev pub onto : Option OneJob → List OneJob → List OneJob
onto None es = es
onto (Some e) es = e ∷ es

-- the jobs that the places hold
abbrev pub held : List Place → List OneJob
held [] = []
held (p ∷ ps) = onto p.held (held ps)

abbrev pub row_of : OneJob → JobRow
row_of e = e.row

abbrev pub counts_held : OneJob → Counts
counts_held e = e.counts

abbrev pub layers_held : OneJob → List LayerRow
layers_held e = e.layers

abbrev pub index_held : OneJob → List LayerPlaces
index_held e = e.index

-- the lists of these jobs, where the places have these numbers
abbrev pub all_of : List ℕ → List OneJob → ℕ → AllJobs
all_of numbers es next =
    record {
      rows = map row_of es;
      counts = map counts_held es;
      layers = flat_map layers_held es;
      index = flat_map index_held es;
      next = next;
      numbers = numbers;
    }

abbrev pub no_entries : AllJobs
no_entries = record { rows = []; counts = []; layers = []; index = []; next = 1; numbers = [] }

-- ---- what is kept

abbrev pub place_key : Place → ℕ
place_key p = p.job

abbrev pub entry_key : OneJob → ℕ
entry_key e = e.row.job

abbrev pub has_number : ℕ → OneJob → Bool
has_number job e = e.row.job == job

-- the layers are those at the places of a job, from this one on
abbrev pub are_layers : ℕ → ℕ → List LayerRow → Bool
are_layers job place [] = true
are_layers job place (l ∷ ls) = (l.job == job && l.place == place) && are_layers job (place + 1) ls

-- the job's layers are its own, in order, and each has its frames' slots
abbrev pub is_whole : OneJob → Bool
is_whole e = are_layers e.row.job 0 e.layers && length e.index == length e.layers

abbrev pub is_held_at : Place → Bool
is_held_at p = for_any p.held (λ e. e.row.job == p.job && is_whole e)

-- the numbers rise, and each place holds the whole job of its number, or none; so many places fit
pub record KeepsEntries (places : List Place) (next fit : ℕ) : Type 0 where
  pub rise : IsRising place_key 0 places next
  pub each : list_all is_held_at places ≡ true
  pub room : MOST_PLACES ≤ fit

-- what is kept of places that are read or changed
pub record ArePlaces (places : List Place) : Type 0 where
  pub next : ℕ
  pub rise : IsRising place_key 0 places next
  pub each : list_all is_held_at places ≡ true

-- ---- what is read

-- the layer is the one at that place (from 0) of a job
abbrev pub is_layer : ℕ → ℕ → LayerRow → Bool
is_layer job layer l = l.job == job && l.place == layer

-- the place of that layer among all
abbrev pub layer_position : ℕ → ℕ → List LayerRow → ℕ
layer_position job layer layers = position_or_len (is_layer job layer) layers

-- a job's number, and its place among these numbers, or how many there are where it isn't one of them
abbrev pub at_of : ℕ → List ℕ → At
at_of job numbers = record { job = job; place = position_or_len (λ n. n == job) numbers }

abbrev pub IsAt : At → List ℕ → Type 0
IsAt at numbers = at.place ≡ position_or_len (λ n. n == at.job) numbers

abbrev pub place_of_number : ℕ → List Place → ℕ
place_of_number job places = position_or_len (λ (p : Place). p.job == job) places

abbrev pub held_in : Option Place → Option OneJob
held_in None = None
held_in (Some p) = p.held

abbrev pub layers_in : Option OneJob → List LayerRow
layers_in None = []
layers_in (Some e) = e.layers

abbrev pub index_in : Option OneJob → List LayerPlaces
index_in None = []
index_in (Some e) = e.index

-- ---- changes of one job

abbrev pub with_held : (OneJob → OneJob) → Place → Place
with_held change p = record p { held = option_map change p.held }

-- the job of that number changed, the others not
abbrev pub on_number : ℕ → (OneJob → OneJob) → OneJob → OneJob
on_number job change e = if has_number job e then change e else e

abbrev pub with_mark : ℕ → ℕ → Bool → OneJob → OneJob
with_mark layer position waits e = record e { index = changed_at e.index layer (marked position waits) }

abbrev pub with_moved : FrameState → FrameState → OneJob → OneJob
with_moved old new e = record e { counts = moved old new e.counts }

-- the row of a job that is paused, or that isn't
abbrev pub with_pause : Bool → JobRow → JobRow
with_pause paused j = record j { paused = paused }

abbrev pub with_paused : Bool → OneJob → OneJob
with_paused paused e = record e { row = with_pause paused e.row }

-- the row of a job that finishes by that number, with the counts of its frames
abbrev pub with_ends : ℕ → Counts → JobRow → JobRow
with_ends finish c j = record j { state = job_state.Finished; finish = finish; eaten = c.eaten; succeeded = c.succeeded }

abbrev pub with_finish : ℕ → Counts → OneJob → OneJob
with_finish finish c e = record { row = with_ends finish c e.row; counts = new_counts 0; layers = []; index = [] }

abbrev pub finished_by : ℕ → ℕ → Counts → JobRow → JobRow
finished_by job finish c j = if j.job == job then with_ends finish c j else j

abbrev pub emptied : Place → Place
emptied p = record p { held = None }

abbrev pub is_taken : Place → Bool
is_taken p = is_some p.held

-- what stands beside the items that pass the test
abbrev pub beside : {K X : Type 0} → (K → Bool) → List K → List X → List X
beside test [] xs = []
beside test (k ∷ ks) [] = []
beside test (k ∷ ks) (x ∷ xs) = if test k then x ∷ beside test ks xs else beside test ks xs

-- ---- changes of all jobs

-- one more job, where the places have these numbers then
abbrev pub with_entry : OneJob → List ℕ → AllJobs → AllJobs
with_entry e numbers all =
    record {
      rows = all.rows ++ e.row ∷ [];
      counts = all.counts ++ e.counts ∷ [];
      layers = all.layers ++ e.layers;
      index = all.index ++ e.index;
      next = all.next + 1;
      numbers = numbers;
    }

-- the place of the job's counts
abbrev pub counts_place : ℕ → AllJobs → ℕ
counts_place job all = position_or_len (λ (j : JobRow). j.job == job) all.rows

-- the job's counts, where it is there
abbrev pub counts_in : ℕ → AllJobs → Option Counts
counts_in job all = slice_get all.counts (counts_place job all)

-- a frame of the job gone from one state into another
abbrev pub with_moved_in : ℕ → FrameState → FrameState → AllJobs → AllJobs
with_moved_in job old new all = record all { counts = changed_at all.counts (counts_place job all) (moved old new) }

-- the job finished by that number, with the counts of its frames
abbrev pub with_end : ℕ → ℕ → Counts → AllJobs → AllJobs
with_end job finish c all =
    record all {
      rows = map (finished_by job finish c) all.rows;
      counts = changed_at all.counts (counts_place job all) (λ _. new_counts 0);
      layers = filter (λ (l : LayerRow). not (l.job == job)) all.layers;
      index = beside (λ (l : LayerRow). not (l.job == job)) all.layers all.index;
    }

-- without the row and the counts of the job
abbrev pub without_row : ℕ → AllJobs → AllJobs
without_row job all =
    record all { rows = filter (λ (j : JobRow). not (j.job == job)) all.rows; counts = beside (λ (j : JobRow). not (j.job == job)) all.rows all.counts }
