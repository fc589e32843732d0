-- What is kept beside the lists, so that a row is judged without a walk over them.
use Rattle.std.specs.Prelude.{ℕ, ℤ, ◌≡◌, ◌≤◌, ◌<◌, ◌==◌, ◌&&◌, ◌+◌, ◌^◌, Bool, true, false, not}
use Rattle.std.specs.Prelude.{List, [], ◌∷◌, map, filter, length, is_some, nat_le, if◌then◌else◌, Option, None, Some}
use Rattle.std.specs.List.{list_all, list_any, position_or_len, sum_by}
use Rattle.std.specs.Ordering.{int_eq}
use Rattle.frame_range.specs.Places.{place_of}
use Rattle.farm_types.specs.declared.rows.HostRow.{HostRow}
use Rattle.farm_types.specs.declared.rows.JobRow.{JobRow}
use Rattle.farm_types.specs.declared.rows.LayerRow.{LayerRow}
use Rattle.farm_types.specs.declared.rows.ShowRow.{ShowRow}
use Rattle.farm_types.specs.declared.rows.SubRow.{SubRow}
use Rattle.farm_types.specs.declared.slot_row.Frame.{Frame}
use Rattle.farm_types.specs.declared.slot_row.SlotRow.{SlotRow}
use Rattle.farm_types.specs.Booking.{is_pending}
use Rattle.farm_types.specs.Farm.{Farm, changed_at, is_placed, slot_from, for_any, layer_in}
use Rattle.farm_types.specs.Depends.{is_done_state}
use Rattle.farm_types.specs.declared.attempt.ProcRow.{ProcRow}
use Rattle.farm_types.specs.Finish.{is_finished}
use Rattle.farm_types.specs.Kept.{finish_of, has_its_finish, host_label, job_label}
use Rattle.farm_types.specs.Operators.{is_left_of}
use Rattle.farm_types.specs.Ranges.{range_numbers}
use Rattle.farm_types.specs.Rising.{IsRising, job_key, layer_key}
use Rattle.farm_types.specs.Sums.{cores_on, memory_on, total_at, used_cores, used_memory}
use Rattle.farm_types.specs.declared.limits.TheConstants.{MOST_FRAMES, MOST_SHOWS, SLOT_LIMIT}
use Rattle.farm_rows.specs.Recovery.{StoredKey, comes_after, numbers_in}
use Rattle.row_index.specs.Index.{HostsKnown, JobsKnown, LayerKnown, found_at, found_with, is_numbered_sub, is_placed_below, with_frame_left, with_used}
use Rattle.stored_rows.specs.Told.{Told}

-- ---- what is known

-- the slots of a layer's numbers, counted from a position
abbrev pub found_from : List SlotRow → LayerRow → ℕ → List ℤ → List (Option ℕ)
found_from slots l position [] = []
found_from slots l position (n ∷ ns) = slot_from 0 (is_placed l.job l.place position) slots ∷ found_from slots l (position + 1) ns

abbrev pub layer_known : List SlotRow → LayerRow → LayerKnown
layer_known slots l = record { numbers = range_numbers l.range; slots = found_from slots l 0 (range_numbers l.range) }

-- the number is the layer's and has a slot
abbrev pub is_found_at : LayerKnown → Option ℕ → Bool
is_found_at k None = false
is_found_at k (Some position) = is_some (found_at k.slots position)

abbrev pub is_found : LayerKnown → ℤ → Bool
is_found k number = is_found_at k (place_of number k.numbers)

-- the number is the layer's and has no slot
abbrev pub is_free_at : LayerKnown → Option ℕ → Bool
is_free_at k None = false
is_free_at k (Some position) = not (is_some (found_at k.slots position))

abbrev pub is_free : LayerKnown → ℤ → Bool
is_free k number = is_free_at k (place_of number k.numbers)

-- a position, and how many numbers there are where there is none
abbrev pub place_or : ℕ → Option ℕ → ℕ
place_or count None = count
place_or count (Some position) = position

-- ---- with one more slot

-- the number of the slot's frame has it
abbrev pub with_found : List LayerRow → ℕ → Option Frame → List LayerKnown → List LayerKnown
with_found layers slot None ks = ks
with_found layers slot (Some x) ks =
    changed_at ks (position_or_len (λ (l : LayerRow). l.job == x.job && l.place == x.layer) layers) (found_with x.position slot)

-- of the job of a frame that isn't done one is left
abbrev pub left_at : List JobRow → Frame → JobsKnown → JobsKnown
left_at jobs x k = with_frame_left (position_or_len (λ (j : JobRow). j.job == x.job) jobs) k

abbrev pub with_left : List JobRow → Option Frame → JobsKnown → JobsKnown
with_left jobs None k = k
with_left jobs (Some x) k = if not (is_done_state x.state) then left_at jobs x k else k

-- the attempt's amounts are used on its host
abbrev pub with_attempt : Option ProcRow → HostsKnown → HostsKnown
with_attempt None k = k
with_attempt (Some p) k = with_used p.host p.cores p.memory k

-- the sums of what attempts use stay numbers of 64 bits with the attempt
abbrev pub HasRoom : Farm → Option ProcRow → Type 0
HasRoom f None = Unit {0}
HasRoom f (Some p) = (used_cores f p.host + p.cores < 2 ^ 64) × (used_memory f p.host + p.memory < 2 ^ 64)

-- the first of these pending jobs of which no frame is left
abbrev pub first_ending : List JobRow → List Bool → Option ℕ
first_ending [] left = None
first_ending (j ∷ js) [] = None
first_ending (j ∷ js) (left ∷ lefts) = if is_pending j.state && not left then Some j.job else first_ending js lefts

-- ---- that it is so

-- each row of the kind that may still come has that id or a later one
abbrev pub IsUntil : Option StoredKey → ℕ → ℕ → Type 0
IsUntil last kind high = (id : ℕ) → comes_after last (kind, id) ≡ true → high ≤ id

-- the keys rise, up to those that may still come
pub record Rises {X : Type 0} (key : X → ℕ) (xs : List X) (last : Option StoredKey) (kind : ℕ) : Type 0 where
  pub high : ℕ
  pub rise : IsRising key 0 xs high
  pub until : IsUntil last kind high

pub record KnowsHosts (k : HostsKnown) (hosts : List HostRow) (slots : List SlotRow) : Type 0 where
  pub names : k.names ≡ map host_label hosts
  pub cores_count : length k.cores ≡ length hosts
  pub memory_count : length k.memory ≡ length hosts
  pub cores : (host : ℕ) → total_at k.cores host ≡ sum_by (λ (s : SlotRow). cores_on host s.proc) slots
  pub memory : (host : ℕ) → total_at k.memory host ≡ sum_by (λ (s : SlotRow). memory_on host s.proc) slots

-- a frame of the job is left
abbrev pub has_left : List SlotRow → JobRow → Bool
has_left slots j = list_any (is_left_of j.job) slots

pub record KnowsJobs (k : JobsKnown) (jobs : List JobRow) (slots : List SlotRow) (next_finish : ℕ) : Type 0 where
  pub names : k.names ≡ map job_label jobs
  pub finished : k.finished ≡ map finish_of (filter is_finished jobs)
  pub finishes : list_all (has_its_finish next_finish) jobs ≡ true
  pub left : k.left ≡ map (has_left slots) jobs

abbrev pub has_few_numbers : LayerRow → Bool
has_few_numbers l = nat_le (length (range_numbers l.range)) MOST_FRAMES

pub record KnowsLayers (k : List LayerKnown) (layers : List LayerRow) (slots : List SlotRow) : Type 0 where
  pub known : k ≡ map (layer_known slots) layers
  pub places : list_all is_placed_below layers ≡ true
  pub numbers : list_all has_few_numbers layers ≡ true

-- the frame's number is one of its layer's, and it stands at that number's position
abbrev pub stands_in : List LayerRow → Frame → Bool
stands_in layers x =
    list_any (λ number. int_eq number x.number) (numbers_in (layer_in layers x.job x.layer))
    && x.position == position_or_len (λ number. int_eq number x.number) (numbers_in (layer_in layers x.job x.layer))

abbrev pub slot_stands : List LayerRow → SlotRow → Bool
slot_stands layers s = for_any s.frame (stands_in layers)

pub record KnowsSlots (slots : List SlotRow) (layers : List LayerRow) (last : Option StoredKey) : Type 0 where
  pub few : length slots ≤ SLOT_LIMIT
  pub until : IsUntil last 8 (length slots)
  pub stand : list_all (slot_stands layers) slots ≡ true

pub record KnowsSubs (shows : List ShowRow) (subs : List SubRow) : Type 0 where
  pub few : length shows ≤ MOST_SHOWS
  pub numbered : list_all is_numbered_sub subs ≡ true

pub record KnowsTold (t : Told) (hosts : HostsKnown) (jobs : JobsKnown) (layers : List LayerKnown) : Type 0 where
  pub of_subs : KnowsSubs t.farm.shows t.farm.subs
  pub of_hosts : KnowsHosts hosts t.farm.hosts t.farm.slots
  pub of_jobs : KnowsJobs jobs t.farm.jobs t.farm.slots t.farm.next_finish
  pub jobs_rise : Rises job_key t.farm.jobs t.last 6
  pub of_layers : KnowsLayers layers t.farm.layers t.farm.slots
  pub layers_rise : Rises layer_key t.farm.layers t.last 7
  pub of_slots : KnowsSlots t.farm.slots t.farm.layers t.last
