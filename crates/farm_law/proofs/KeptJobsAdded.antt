-- What a job that isn't refused adds to jobs, layers and slots.
use Rattle.std.proofs.Common.{◌≡◌, ℕ, suc, zero, ◌*◌, ◌<◌, ◌≤◌, Bool, true, false, cond, not, ◌&&◌, eqb, leb, List, [], ◌∷◌, ◌++◌, map, Option, Some, None, refl, sym, ap, subst, ◌∙◌, arith, append-nil, ◌⊎◌, inl, inr}
use Rattle.std.specs.Prelude.{bytes_eq, nat_lt}
use Rattle.std.specs.List.{IsDistinct, list_all, list_any, slice_get}
use Rattle.std.proofs.lemmas.Bool.{ltb-false, eq-eqb, ne_eqb, or_parts}
use Rattle.std.proofs.lemmas.Cmp.{nat_list_eq_equiv}
use Rattle.std.proofs.lemmas.List.{map_push}
use Rattle.std.proofs.lemmas.List.Elements.{filter-append}
use Rattle.std.proofs.lemmas.Map.Keys.{IsDistinct-push}
use Rattle.std.proofs.lemmas.Option.{none-some}
use Rattle.std.specs.Cmp.Derive.{both_true}
use Rattle.std.specs.Ordering.{int_eq}
use Rattle.farm_types.specs.declared.job.JobSpec.{JobSpec}
use Rattle.farm_types.specs.declared.rows.JobRow.{JobRow}
use Rattle.farm_types.specs.declared.rows.LayerRow.{LayerRow}
use Rattle.farm_types.specs.declared.slot_row.Frame.{Frame}
use Rattle.farm_types.specs.declared.slot_row.SlotRow.{SlotRow}
use Rattle.farm_types.specs.declared.limits.TheConstants.{LAST_JOB, LAST_VERSION, MOST_LAYERS}
use Rattle.farm_types.specs.Farm.{for_some, is_placed, layers_of, for_any, layer_in}
use Rattle.farm_types.specs.Formed.{IsFormedJob}
use Rattle.farm_types.specs.Jobs.{JobLists, frames_in, free_in, is_finished_named, is_pending_named, job_refusal, job_row, layer_rows, layers_refusal, repeated_name, room_refusal, without_finished}
use Rattle.farm_types.specs.Kept.{AllDiffer, AreAtPlaces, HasItsLayers, frames_said, is_formed_job, is_kept_frame, is_kept_slot, is_of_pending, is_pending_job, job_label, layer_label}
use Rattle.farm_types.specs.Ranges.{range_numbers}
use Rattle.farm_types.specs.Rising.{IsRising, job_key, layer_key}
use Rattle.farm_types.proofs.Lists.{and_both, for_some_true, list_all-at, list_all-from_at}
use Rattle.farm_types.proofs.ListSums.{sum_by-each_zero}
use Rattle.farm_law.proofs.Filtered.{differ-filter}
use Rattle.farm_law.proofs.KeptJobsCounts.{count_at, counts_frame, stands_at}
use Rattle.farm_law.proofs.KeptJobsFormed.{formed_job}
use Rattle.farm_law.proofs.FormedParts.{between}
use Rattle.farm_law.proofs.KeptJobsLayers.{all_of_job, none_in_next, none_of_next, none_of_other, row_names, rows_at_places, rows_said}
use Rattle.farm_law.proofs.KeptJobsLists.{find_none, for_some_more, found_later, names_differ, rising_below, some_none}
use Rattle.farm_law.proofs.KeptJobsRows.{frame_kept, keeps_frame}

-- ---- a job that isn't refused

-- its name and its layers' names are new, each frame has a slot, and there is a number for it
pub record Accepted (b : JobLists) (spec : JobSpec) : Type 0 where
  pub name_new : list_any (is_pending_named spec.name) b.jobs ≡ false
  pub layers_new : repeated_name [] spec.layers ≡ None
  pub room : frames_in spec.layers ≤ free_in b.slots
  pub number : b.next_job ≤ LAST_JOB

-- the last refusals: no room, no number
room_step : (full over named : Bool) (b : JobLists) (spec : JobSpec) → nat_lt (free_in b.slots) (frames_in spec.layers) ≡ full → nat_lt LAST_JOB b.next_job ≡ over
    → list_any (is_pending_named spec.name) b.jobs ≡ false → repeated_name [] spec.layers ≡ None → room_refusal b spec ≡ None → Accepted b spec
room_step true over named b spec few many new names none = absurd (some_none _ (rw few at none))
room_step false true named b spec few many new names none = absurd (some_none _ (rw (few, many) at none))
room_step false false named b spec few many new names none =
    record { name_new = new; layers_new = names; room = ltb-false (free_in b.slots) (frames_in spec.layers) few; number = ltb-false LAST_JOB b.next_job many }

layers_step : (o : Option (List ℕ)) (b : JobLists) (spec : JobSpec) → repeated_name [] spec.layers ≡ o → list_any (is_pending_named spec.name) b.jobs ≡ false → layers_refusal b spec o ≡ None → Accepted b spec
layers_step None b spec is new none = room_step (nat_lt (free_in b.slots) (frames_in spec.layers)) (nat_lt LAST_JOB b.next_job) false b spec refl refl new is none
layers_step (Some name) b spec is new none = absurd (some_none _ none)

accepted_step : (c : Bool) (b : JobLists) (spec : JobSpec) → list_any (is_pending_named spec.name) b.jobs ≡ c → job_refusal b spec ≡ None → Accepted b spec
accepted_step true b spec is none = absurd (some_none _ (rw is at none))
accepted_step false b spec is none = layers_step (repeated_name [] spec.layers) b spec refl is (rw is at none)

-- a job that no refusal names
pub accepted : (b : JobLists) (spec : JobSpec) → job_refusal b spec ≡ None → Accepted b spec
accepted b spec none = accepted_step (list_any (is_pending_named spec.name) b.jobs) b spec refl none

-- ---- jobs

-- an item of two lists one after the other
pub in_either : {X : Type 0} (xs ys : List X) (n : ℕ) (x : X) → slice_get (xs ++ ys) n ≡ Some x → (slice_get xs n ≡ Some x) ⊎ ((m : ℕ) × (slice_get ys m ≡ Some x))
in_either [] ys n x at = inr (n, at)
in_either (z ∷ zs) ys zero x at = inl at
in_either (z ∷ zs) ys (suc n) x at = in_either zs ys n x at

-- the row of the new job is formed
pub row_is_formed : (job show shows : ℕ) (spec : JobSpec) → IsFormedJob spec → show < shows → is_formed_job shows (job_row job show spec) ≡ true
row_is_formed job show shows spec formed within =
    formed_job shows (job_row job show spec)
    (record {
      name = formed.name;
      show = within;
      facility = formed.facility;
      shot = formed.shot;
      user = formed.user;
      priority = between _ _ spec.priority formed.limits.priority_within;
      retries = formed.limits.retries_within;
      frames = between _ _ (frames_in spec.layers) formed.limits.frames_within;
    })

-- a name that no pending job has is none of those that stay
unnamed_step : (pending same : Bool) (name : List ℕ) (j : JobRow) (kept : List JobRow) → is_pending_job j ≡ pending → bytes_eq j.name name ≡ same → (is_pending_job j && bytes_eq j.name name) ≡ false → list_any (bytes_eq name) (map job_label kept) ≡ false
    → list_any (bytes_eq name) (map job_label (cond (not (not pending && same)) (j ∷ kept) kept)) ≡ false
unnamed_step true same name j kept is is_same other rest =
    let apart : bytes_eq j.name name ≡ false = rw is at other in
    rw (nat_list_eq_equiv.symm name j.name, apart) rest
unnamed_step false true name j kept is is_same other rest = rest
unnamed_step false false name j kept is is_same other rest = rw (nat_list_eq_equiv.symm name j.name, is_same) rest

pub unnamed : (name : List ℕ) (js : List JobRow) → list_any (is_pending_named name) js ≡ false → list_any (bytes_eq name) (map job_label (without_finished name js)) ≡ false
unnamed name [] none = refl
unnamed name (j ∷ js) none =
    let parts = or_parts (is_pending_named name j) (list_any (is_pending_named name) js) none in
    unnamed_step (is_pending_job j) (bytes_eq j.name name) name j (without_finished name js) refl refl parts.0 (unnamed name js parts.1)

-- the names of jobs with the new one
pub names_added : (jobs : List JobRow) (job show : ℕ) (spec : JobSpec) → AllDiffer job_label jobs → list_any (is_pending_named spec.name) jobs ≡ false → AllDiffer job_label (without_finished spec.name jobs ++ job_row job show spec ∷ [])
names_added jobs job show spec differ new =
    let olds = without_finished spec.name jobs in
    let names : map job_label (olds ++ job_row job show spec ∷ []) ≡ map job_label olds ++ spec.name ∷ [] = map_push job_label olds (job_row job show spec) in
    subst (IsDistinct bytes_eq) (sym names)
    (IsDistinct-push nat_list_eq_equiv (map job_label olds) spec.name (differ-filter job_label bytes_eq (λ j. not (is_finished_named spec.name j)) jobs differ) (unnamed spec.name jobs new))

-- ---- layers of jobs

-- what a job's layers have to keep, told of the list of them
pub has_its : (layers own : List LayerRow) (j : JobRow) → layers_of layers j.job ≡ own → AreAtPlaces 0 own → AllDiffer layer_label own → frames_said own ≡ j.frames → HasItsLayers layers j
has_its layers own j are places differ frames =
    record {
      places = subst (AreAtPlaces 0) (sym are) places;
      differ = subst (AllDiffer layer_label) (sym are) differ;
      frames = ap frames_said are ∙ frames;
    }

module _ (layers : List LayerRow) (next : ℕ) (limits : List (Option ℕ)) (spec : JobSpec) where
  -- the rows of its layers
  abbrev pub rows : List LayerRow
  rows = layer_rows next limits 0 spec.layers

  -- a job that was there has the layers that it had
  pub old_layered : (j : JobRow) → j.job < next → HasItsLayers layers j → HasItsLayers (layers ++ rows) j
  old_layered j below had =
      let apart : eqb next j.job ≡ false = ne_eqb next j.job (λ e. absurd (omega (arith, below, e))) in
      let kept : layers_of (layers ++ rows) j.job ≡ layers_of layers j.job =
      filter-append (λ (l : LayerRow). eqb l.job j.job) layers rows ∙ ap (λ (more : List LayerRow). layers_of layers j.job ++ more) (none_of_other next j.job limits 0 spec.layers apart) ∙ append-nil (layers_of layers j.job) in
      has_its (layers ++ rows) (layers_of layers j.job) j kept had.places had.differ had.frames

  -- the new one has its own
  pub new_layered : (show : ℕ) → IsFormedJob spec → IsRising layer_key 0 layers (MOST_LAYERS * next) → repeated_name [] spec.layers ≡ None → HasItsLayers (layers ++ rows) (job_row next show spec)
  new_layered show formed rise new =
      let own : layers_of (layers ++ rows) next ≡ rows =
      filter-append (λ (l : LayerRow). eqb l.job next) layers rows ∙ ap (λ (old : List LayerRow). old ++ layers_of rows next) (none_of_next layers next rise) ∙ all_of_job next limits 0 spec.layers in
      has_its (layers ++ rows) rows (job_row next show spec) own (rows_at_places next limits 0 spec.layers)
      (subst (IsDistinct bytes_eq) (sym (row_names next limits 0 spec.layers)) (names_differ [] spec.layers new))
      (rows_said next limits 0 spec.layers formed.each_layer)

-- the new job is there and pending
pub new_pending : (jobs : List JobRow) (next show : ℕ) (spec : JobSpec) → IsRising job_key 1 jobs next → is_of_pending (jobs ++ job_row next show spec ∷ []) next ≡ true
new_pending jobs next show spec rise =
    let none = find_none (λ (j : JobRow). eqb j.job next) jobs (λ n j at. ne_eqb j.job next (λ e. absurd (omega (arith, rising_below job_key 1 jobs next n j rise at, e)))) in
    let itself : eqb next next ≡ true = eq-eqb next next refl in
    rw (found_later (λ (j : JobRow). eqb j.job next) jobs (job_row next show spec ∷ []) none) (rw itself refl)

-- ---- slots

module _ (layers more : List LayerRow) where
  -- a frame that is kept has its layer among more
  any_more : (frame : Option Frame) → for_any frame (is_kept_frame layers) ≡ true → for_any frame (is_kept_frame (layers ++ more)) ≡ true
  any_more None h = refl
  any_more (Some x) h =
      let had = frame_kept layers x h in
      keeps_frame (layers ++ more) x
      (record {
        number = for_some_more (λ (l : LayerRow). eqb l.job x.job && eqb l.place x.layer) (λ l. for_some (slice_get (range_numbers l.range) x.position) (λ number. int_eq number x.number)) layers more had.number;
        retries = had.retries;
        state = had.state;
      })

  -- slots are kept where there are more layers
  pub slots_more : (slots : List SlotRow) → list_all (is_kept_slot layers) slots ≡ true → list_all (is_kept_slot (layers ++ more)) slots ≡ true
  slots_more slots all =
      list_all-from_at (is_kept_slot (layers ++ more)) slots
      (λ n s at.
      let both = and_both (leb s.version LAST_VERSION) (for_any s.frame (is_kept_frame layers)) (list_all-at (is_kept_slot layers) slots n s all at) in
      both_true both.0 (any_more s.frame both.1))

module _ (layers : List LayerRow) (next : ℕ) (rise : IsRising layer_key 0 layers (MOST_LAYERS * next)) where
  -- no frame that is there is of the next job
  not_of_next : (layer position : ℕ) (frame : Option Frame) (b : Bool) → for_some frame (is_placed next layer position) ≡ b → for_any frame (is_kept_frame layers) ≡ true → counts_frame next layer position frame ≡ 0
  not_of_next layer position frame false is kept = rw is refl
  not_of_next layer position None true is kept = refl
  not_of_next layer position (Some x) true is kept =
      let at = stands_at next layer position x is in
      let has = for_some_true (layer_in layers x.job x.layer) _ (frame_kept layers x kept).number in
      let none : layer_in layers x.job x.layer ≡ None = rw at.job_is (none_in_next layers next rise x.layer) in
      absurd (none-some has.0 (sym none ∙ has.1))

  -- so none of its positions is counted
  pub none_counted : (slots : List SlotRow) → list_all (is_kept_slot layers) slots ≡ true → (layer position : ℕ) → count_at next layer position slots ≡ 0
  none_counted slots all layer position =
      sum_by-each_zero (λ (s : SlotRow). counts_frame next layer position s.frame) slots
      (λ n s at. not_of_next layer position s.frame (for_some s.frame (is_placed next layer position)) refl (and_both (leb s.version LAST_VERSION) (for_any s.frame (is_kept_frame layers)) (list_all-at (is_kept_slot layers) slots n s all at)).1)
