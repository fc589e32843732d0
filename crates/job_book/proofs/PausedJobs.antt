-- One job is paused or resumed: where its row stands, and what the book keeps of the other fields.
use Rattle.std.proofs.Common.{◌≡◌, ℕ, suc, ◌+◌, ◌<◌, ◌≤◌, Bool, true, false, cond, eqb, List, [], ◌∷◌, map, filter, refl, sym, ap, ◌∙◌, arith}
use Rattle.std.specs.List.{list_all, position_or_len}
use Rattle.std.proofs.lemmas.Bool.{eqb-true, ne_eqb}
use Rattle.std.proofs.lemmas.List.{length-map}
use Rattle.farm_types.specs.declared.rows.JobRow.{JobRow}
use Rattle.farm_types.specs.declared.slot_row.SlotRow.{SlotRow}
use Rattle.farm_types.specs.Farm.{changed_at}
use Rattle.farm_types.specs.Jobs.{JobLists}
use Rattle.farm_types.specs.Operators.{paused_row}
use Rattle.farm_types.specs.Rising.{IsRising, job_key}
use Rattle.farm_types.proofs.ChangedLists.{changed_at_suc, map-map_kept}
use Rattle.job_book.specs.Book.{counts_of}
use Rattle.job_entries.specs.Entries.{with_pause}
use Rattle.job_book.specs.Finished.{KeepsFinished, finish_key, has_finish}
use Rattle.job_book.specs.Inside.{IsBook, counts_for, frames_left, has_layers_if, has_slots}
use Rattle.job_book.specs.Names.{KeepsNames, is_named}
use Rattle.farm_types.specs.Finish.{is_finished}
use Rattle.std.specs.List.{sum_by}
use Rattle.std.proofs.lemmas.List.Sums.{sum_by-cons}
use Rattle.job_book.specs.Ready.{KeepsReady, has_priority, is_ready_in, ready_key}
use Rattle.job_index.specs.Keys.{sorted}

module _ (job : ℕ) (paused : Bool) where
  abbrev row : JobRow → JobRow
  row = paused_row job paused

  -- ---- the row at the number's place

  -- numbers above it aren't it
  above_stay : (low : ℕ) (js : List JobRow) (high : ℕ) → job < low → IsRising job_key low js high → map row js ≡ js
  above_stay low [] high less rise = refl
  above_stay low (j ∷ js) high less rise =
      let apart : eqb j.job job ≡ false = ne_eqb j.job job (λ e. absurd (omega (arith, rise.0, e, less))) in
      let rest = above_stay (j.job + 1) js high (omega (arith, rise.0, less)) rise.1 in
      rw (apart, rest) refl

  paused_step : (b : Bool) (j : JobRow) (js : List JobRow) (high : ℕ) → eqb j.job job ≡ b → IsRising job_key (j.job + 1) js high
      → changed_at js (position_or_len (λ (i : JobRow). eqb i.job job) js) (with_pause paused) ≡ map row js
      → changed_at (j ∷ js) (position_or_len (λ (i : JobRow). eqb i.job job) (j ∷ js)) (with_pause paused) ≡ map row (j ∷ js)
  paused_step true j js high is rise later =
      let stay = above_stay (j.job + 1) js high (omega (arith, eqb-true j.job job is)) rise in
      rw (is, stay) refl
  paused_step false j js high is rise later =
      let place = position_or_len (λ (i : JobRow). eqb i.job job) js in
      let at : position_or_len (λ (i : JobRow). eqb i.job job) (j ∷ js) ≡ suc place = rw is (omega arith) in
      let same : j ∷ map row js ≡ map row (j ∷ js) = rw is refl in
      ap (λ (n : ℕ). changed_at (j ∷ js) n (with_pause paused)) at ∙ changed_at_suc j js place (with_pause paused) ∙ ap (λ (ks : List JobRow). j ∷ ks) later ∙ same

  -- a change at the place of the number is one of the job alone, where it is there
  pub paused_at : (low : ℕ) (js : List JobRow) (high : ℕ) → IsRising job_key low js high → changed_at js (position_or_len (λ (j : JobRow). eqb j.job job) js) (with_pause paused) ≡ map row js
  paused_at low [] high rise = refl
  paused_at low (j ∷ js) high rise = paused_step (eqb j.job job) j js high refl rise.1 (paused_at (j.job + 1) js high rise.1)

  -- ---- what doesn't read the flag

  kept_by : {Y : Type 0} (read : JobRow → Y) → ((j : JobRow) → read (with_pause paused j) ≡ read j) → (b : Bool) (j : JobRow) → read (cond b (with_pause paused j) j) ≡ read j
  kept_by read same true j = same j
  kept_by read same false j = refl

  kept : {Y : Type 0} (read : JobRow → Y) → ((j : JobRow) → read (with_pause paused j) ≡ read j) → (j : JobRow) → read (row j) ≡ read j
  kept read same j = kept_by read same (eqb j.job job) j

  all_kept : (test : JobRow → Bool) → ((j : JobRow) → test (row j) ≡ test j) → (js : List JobRow) → list_all test (map row js) ≡ list_all test js
  all_kept test same [] = refl
  all_kept test same (j ∷ js) = rw (same j, all_kept test same js) refl

  module _ (test : JobRow → Bool) (key : JobRow → ℕ) (same_test : (j : JobRow) → test (row j) ≡ test j) (same_key : (j : JobRow) → key (row j) ≡ key j) where
    keys_step : (b : Bool) (j : JobRow) (js : List JobRow) → test j ≡ b → test (row j) ≡ b → map key (filter test (map row js)) ≡ map key (filter test js) → map key (filter test (map row (j ∷ js))) ≡ map key (filter test (j ∷ js))
    keys_step true j js is now later = rw (now, is) (λ i. same_key j i ∷ later i)
    keys_step false j js is now later = rw (now, is) later

    keys_kept : (js : List JobRow) → map key (filter test (map row js)) ≡ map key (filter test js)
    keys_kept [] = refl
    keys_kept (j ∷ js) = keys_step (test j) j js refl (same_test j) (keys_kept js)

  rising_by : (b : Bool) (low : ℕ) (j : JobRow) (js : List JobRow) (high : ℕ) → eqb j.job job ≡ b → low ≤ j.job → IsRising job_key (j.job + 1) (map row js) high → IsRising job_key low (map row (j ∷ js)) high
  rising_by true low j js high is first rest = rw is (first, rest)
  rising_by false low j js high is first rest = rw is (first, rest)

  rising : (low : ℕ) (js : List JobRow) (high : ℕ) → IsRising job_key low js high → IsRising job_key low (map row js) high
  rising low [] high rise = rise
  rising low (j ∷ js) high rise = rising_by (eqb j.job job) low j js high refl rise.0 (rising (j.job + 1) js high rise.1)

  sums_kept : (js : List JobRow) → sum_by frames_left (map row js) ≡ sum_by frames_left js
  sums_kept [] = refl
  sums_kept (j ∷ js) = omega (arith, sum_by-cons frames_left (row j) (map row js), sum_by-cons frames_left j js, kept frames_left (λ i. refl) j, sums_kept js)

  -- ---- what the book keeps

  pub paused_book : (b : JobLists) → IsBook b → IsBook (record b { jobs = map row b.jobs })
  paused_book b ok =
      record {
        slot_count = ok.slot_count;
        next_within = ok.next_within;
        jobs_rise = rising 0 b.jobs b.next_job ok.jobs_rise;
        layers_rise = ok.layers_rise;
        layers_owned = all_kept (has_layers_if b.layers) (kept (has_layers_if b.layers) (λ j. refl)) b.jobs ∙ ok.layers_owned;
        frames_below = ok.frames_below;
        slots_had = all_kept (has_slots b.slots) (kept (has_slots b.slots) (λ j. refl)) b.jobs ∙ ok.slots_had;
        jobs_fit = omega (arith, ok.jobs_fit, sums_kept b.jobs);
      }

  pub paused_names : (names : List (List ℕ × ℕ)) (jobs : List JobRow) → KeepsNames names jobs → KeepsNames names (map row jobs)
  paused_names names jobs keeps =
      record {
        named = λ name. keys_kept (is_named name) job_key (kept (is_named name) (λ j. refl)) (kept job_key (λ j. refl)) jobs ∙ keeps.named name;
        as_many = omega (arith, keeps.as_many, length-map jobs row);
      }

  pub paused_finished : (jobs : List JobRow) (keys : List ℕ) → KeepsFinished jobs keys → KeepsFinished (map row jobs) keys
  paused_finished jobs keys keeps =
      let same = keys_kept is_finished finish_key (kept is_finished (λ j. refl)) (kept finish_key (λ j. refl)) jobs in
      record {
        keys_are = keeps.keys_are ∙ sym (ap sorted same);
        within = all_kept has_finish (kept has_finish (λ j. refl)) jobs ∙ keeps.within;
      }

  pub paused_ready : (jobs : List JobRow) (slots : List SlotRow) (ready : List (List ℕ)) → KeepsReady jobs slots ready → KeepsReady (map row jobs) slots ready
  paused_ready jobs slots ready keeps =
      record {
        priorities = all_kept has_priority (kept has_priority (λ j. refl)) jobs ∙ keeps.priorities;
        as_many = keeps.as_many;
        keys = λ show ks there. keeps.keys show ks there
            ∙ sym (ap sorted (keys_kept (is_ready_in slots show) ready_key (kept (is_ready_in slots show) (λ j. refl)) (kept ready_key (λ j. refl)) jobs));
      }

  pub paused_counts : (jobs : List JobRow) (slots : List SlotRow) → counts_for (map row jobs) slots ≡ counts_for jobs slots
  paused_counts jobs slots = map-map_kept (λ (j : JobRow). counts_of j.job slots) row (kept (λ (j : JobRow). counts_of j.job slots) (λ j. refl)) jobs
