-- The rows of jobs and of their layers say them.
use Rattle.std.proofs.Common.{◌≡◌, ◌≤◌, ◌<◌, ℕ, ◌+◌, ◌-◌, ◌*◌, eqb, ltb, Bool, true, false, not, cond, ◌&&◌, ◌||◌, List, [], ◌∷◌, ◌++◌, map, length, Option, Some, Result, refl, ap, sym, subst, ◌∙◌, arith}
use Rattle.std.specs.Prelude.{nat_eq}
use Rattle.std.specs.List.{IsDistinct, filter, find, list_all, list_any, position_or_len, slice_get}
use Rattle.std.proofs.lemmas.Bool.{eq-eqb, eqb-true, false≢true, le-leb, lt-ltb, ltb-true, ne_eqb, not_from_false, true≢false}
use Rattle.std.proofs.lemmas.List.Folds.{find_at}
use Rattle.std.proofs.lemmas.List.Sums.{sum_by-append, sum_by-cons}
use Rattle.std.specs.Cmp.Derive.{both_true}
use Rattle.farm_types.specs.declared.rows.JobRow.{JobRow}
use Rattle.farm_types.specs.declared.rows.LayerRow.{LayerRow}
use Rattle.farm_types.specs.declared.limits.TheConstants.{MOST_FINISHED, MOST_LAYERS}
use Rattle.farm_types.specs.Booking.{is_pending}
use Rattle.farm_types.specs.Farm.{Farm, layers_of}
use Rattle.farm_types.specs.Finish.{is_finished}
use Rattle.farm_types.specs.Kept.{AllDiffer, AreAtPlaces, KeepsJobs, finish_of, frames_said, has_its_counts, has_its_finish, is_formed_job, is_formed_layer, is_of_pending, is_pending_job, job_label, layer_label}
use Rattle.farm_types.specs.Ranges.{range_numbers}
use Rattle.farm_types.specs.Rising.{IsRising, job_key, layer_key}
use Rattle.farm_types.specs.Step.{lists_of}
use Rattle.farm_types.proofs.Lists.{and_both, for_some_true, found_is, list_all-at}
use Rattle.farm_types.proofs.Passes.{for_some-there}
use Rattle.farm_law.proofs.Filtered.{filter_among, kept_at}
use Rattle.farm_law.proofs.KeptJobsLists.{any_fails}
use Rattle.farm_rows.specs.declared.farm_row.FarmRow.{FarmRow}
use Rattle.farm_rows.specs.declared.farm_row.FarmRow.TheVariants as row
use Rattle.farm_rows.specs.Recovery.{Said, StoredKey, end_fits, farm_with, job_fits, layer_fits}
use Rattle.recovery_law.proofs.Firsts.{by_keys, first_fewer, first_pass, new_label, next_passes, none_alike, numbered_map, rising_next, rising_under}
use Rattle.recovery_law.proofs.Parts.{upto_jobs, upto_layers}
use Rattle.recovery_law.proofs.SaidEnd.{none_pass}
use Rattle.recovery_law.proofs.Stage.{IsPast, Kind, Stage, all_staged}

abbrev pub job_rows : Farm → Kind JobRow
job_rows f = record { kind = 6; make = λ n x. row.Job x; id = λ n x. job_key x; farm = upto_jobs f }

abbrev pub layer_rows : Farm → Kind LayerRow
layer_rows f = record { kind = 7; make = λ n x. row.Layer x; id = λ n x. layer_key x; farm = upto_layers f }

-- ---- finished jobs

-- a pending job's finish is 0, and a finished one's isn't
finish_by : (b : Bool) (next finish : ℕ) → cond b (eqb finish 0) (ltb 0 finish && ltb finish next) ≡ true → b ≡ true → finish ≡ 0
finish_by true next finish has is = eqb-true finish 0 has
finish_by false next finish has is = absurd (false≢true is)

finished_by : (b : Bool) (next finish : ℕ) → cond b (eqb finish 0) (ltb 0 finish && ltb finish next) ≡ true → b ≡ false → 0 < finish
finished_by true next finish has is = absurd (true≢false is)
finished_by false next finish has is = ltb-true 0 finish (and_both (ltb 0 finish) (ltb finish next) has).0

module _ (next : ℕ) (done rest : List JobRow) (x : JobRow) (ends : is_pending x.state ≡ false) (finishes : list_all (has_its_finish next) (done ++ x ∷ rest) ≡ true) where
  among : filter is_finished (done ++ x ∷ rest) ≡ filter is_finished done ++ x ∷ filter is_finished rest
  among = filter_among is_finished done x rest true (not_from_false (is_pending x.state) ends)

  other_finish : IsDistinct nat_eq (map finish_of (filter is_finished (done ++ x ∷ rest))) → (n : ℕ) (y : JobRow) → slice_get done n ≡ Some y → eqb y.finish x.finish ≡ false
  other_finish differ n y at = by (is_pending y.state) refl
    where
      apart : list_any (λ (j : JobRow). nat_eq (finish_of j) (finish_of x)) (filter is_finished done) ≡ false
      apart = none_alike nat_eq finish_of (filter is_finished done) (filter is_finished rest) x (subst (λ (js : List JobRow). IsDistinct nat_eq (map finish_of js)) among differ)

      by : (b : Bool) → is_pending y.state ≡ b → eqb y.finish x.finish ≡ false
      by true is =
          let zero_there = finish_by (is_pending y.state) next y.finish (list_all-at (has_its_finish next) done n y (first_pass (has_its_finish next) done rest x finishes) at) is in
          let some = finished_by (is_pending x.state) next x.finish (next_passes (has_its_finish next) done rest x finishes) ends in
          ne_eqb y.finish x.finish (λ same. absurd (omega (arith, zero_there, some, same)))
      by false is =
          let kept = kept_at is_finished done n y at (not_from_false (is_pending y.state) is) in
          any_fails (λ (j : JobRow). nat_eq (finish_of j) (finish_of x)) (filter is_finished done) kept.0 y apart kept.1

  few_finished : (most : ℕ) → length (filter is_finished (done ++ x ∷ rest)) ≤ most → length (filter is_finished done) < most
  few_finished most count =
      let within = first_fewer (filter is_finished done) (filter is_finished rest) x in
      let same = ap length among in
      omega (arith, within, same, count)

-- ---- places

place_next : (place : ℕ) (done rest : List LayerRow) (x : LayerRow) → AreAtPlaces place (done ++ x ∷ rest) → x.place ≡ place + length done
place_next place [] rest x places = omega (arith, places.0)
place_next place (y ∷ ys) rest x places = omega (arith, place_next (place + 1) ys rest x places.1)

module _ (format : ℕ) (f : Farm) (k : KeepsJobs (lists_of f) (length f.shows)) where
  ends_fit : (done : List JobRow) (x : JobRow) (rest : List JobRow) → done ++ x ∷ rest ≡ f.jobs → end_fits (upto_jobs f done) x ≡ true
  ends_fit done x rest is =
      let finishes = subst (λ (xs : List JobRow). list_all (has_its_finish f.next_finish) xs ≡ true) (sym is) k.finishes_within in
      both_true (next_passes (has_its_finish f.next_finish) done rest x finishes)
      (both_true (next_passes has_its_counts done rest x (subst (λ (xs : List JobRow). list_all has_its_counts xs ≡ true) (sym is) k.jobs_counted))
      (by finishes (is_pending x.state) refl))
    where
      by : list_all (has_its_finish f.next_finish) (done ++ x ∷ rest) ≡ true → (b : Bool) → is_pending x.state ≡ b → (b || (not (list_any (λ (j : JobRow). eqb j.finish x.finish) done) && ltb (length (filter is_finished done)) MOST_FINISHED)) ≡ true
      by finishes true ends = refl
      by finishes false ends =
          both_true
          (not_from_false _ (none_pass (λ (j : JobRow). eqb j.finish x.finish) done
          (other_finish f.next_finish done rest x ends finishes (subst (λ (xs : List JobRow). IsDistinct nat_eq (map finish_of (filter is_finished xs))) (sym is) k.finishes_differ))))
          (lt-ltb _ MOST_FINISHED (few_finished f.next_finish done rest x ends finishes MOST_FINISHED (subst (λ (xs : List JobRow). length (filter is_finished xs) ≤ MOST_FINISHED) (sym is) k.finished_count)))

  job_fit : (done : List JobRow) (x : JobRow) (rest : List JobRow) → done ++ x ∷ rest ≡ f.jobs → job_fits (upto_jobs f done) x ≡ true
  job_fit done x rest is =
      let rise = subst (λ (xs : List JobRow). IsRising job_key 1 xs f.next_job) (sym is) k.jobs_rise in
      let under = rising_under job_key 1 done rest x f.next_job rise in
      both_true (both_true (le-leb 1 x.job (rising_next job_key 1 done rest x f.next_job rise)) (le-leb x.job (f.next_job - 1) (omega (arith, under))))
      (both_true (next_passes (is_formed_job (length f.shows)) done rest x (subst (λ (xs : List JobRow). list_all (is_formed_job (length f.shows)) xs ≡ true) (sym is) k.jobs_formed))
      (both_true (new_label job_label done rest x (subst (λ (xs : List JobRow). AllDiffer job_label xs) (sym is) k.jobs_differ))
      (ends_fit done x rest is)))

  jobs_stage : Stage format (job_rows f) f.jobs
  jobs_stage = record { keys = λ n x. refl; formats = λ n x. refl; adds = λ done x. refl; fits = job_fit }

  pub jobs_said : (more : List FarmRow) (said : Result Said StoredKey) → ((last : Option StoredKey) → IsPast last 6 → farm_with format last (upto_jobs f f.jobs) more ≡ said)
      → (last : Option StoredKey) → IsPast last 5 → farm_with format last (upto_jobs f []) (map row.Job f.jobs ++ more) ≡ said
  jobs_said more said next last past =
      ap (λ (rows : List FarmRow). farm_with format last (upto_jobs f []) (rows ++ more)) (sym (numbered_map row.Job 0 f.jobs))
      ∙ all_staged format (job_rows f) f.jobs jobs_stage more said next last 1 5 (omega arith) (by_keys job_key 1 0 f.jobs f.next_job k.jobs_rise) past

  -- ---- layers

  layer_fit : (done : List LayerRow) (x : LayerRow) (rest : List LayerRow) → done ++ x ∷ rest ≡ f.layers → layer_fits (upto_layers f done) x ≡ true
  layer_fit done x rest is =
      let owned = next_passes (λ (l : LayerRow). is_of_pending f.jobs l.job) done rest x (subst (λ (xs : List LayerRow). list_all (λ (l : LayerRow). is_of_pending f.jobs l.job) xs ≡ true) (sym is) k.layers_owned) in
      let wanted : JobRow → Bool = λ (j : JobRow). eqb j.job x.job in
      let j = for_some_true (find wanted f.jobs) is_pending_job owned in
      let number : j.0.job ≡ x.job = eqb-true j.0.job x.job (found_is wanted f.jobs j.0 j.1) in
      let has = k.jobs_layered (position_or_len wanted f.jobs) j.0 (sym (find_at wanted f.jobs) ∙ j.1) j.2 in
      let own : layers_of f.layers j.0.job ≡ layers_of done x.job ++ x ∷ layers_of rest x.job =
      ap (λ (n : ℕ). layers_of f.layers n) number ∙ ap (λ (xs : List LayerRow). layers_of xs x.job) (sym is)
      ∙ filter_among (λ (l : LayerRow). eqb l.job x.job) done x rest true (eq-eqb x.job x.job refl) in
      let places = subst (λ (xs : List LayerRow). AreAtPlaces 0 xs) own has.places in
      let differ = subst (λ (xs : List LayerRow). AllDiffer layer_label xs) own has.differ in
      let frames = ap frames_said (sym own) ∙ has.frames in
      let place = place_next 0 (layers_of done x.job) (layers_of rest x.job) x places in
      both_true owned
      (both_true (eq-eqb x.place (length (layers_of done x.job)) (omega (arith, place)))
      (both_true (next_passes is_formed_layer done rest x (subst (λ (xs : List LayerRow). list_all is_formed_layer xs ≡ true) (sym is) k.layers_formed))
      (both_true (new_label layer_label (layers_of done x.job) (layers_of rest x.job) x differ)
      (for_some-there (find wanted f.jobs) _ j.0 j.1 (le-leb _ j.0.frames (within (layers_of done x.job) (layers_of rest x.job) x j.0.frames frames))))))
    where
      within : (first last : List LayerRow) (l : LayerRow) (count : ℕ) → frames_said (first ++ l ∷ last) ≡ count → frames_said first + length (range_numbers l.range) ≤ count
      within first last l count all =
          let weight : LayerRow → ℕ = λ (l : LayerRow). length (range_numbers l.range) in
          let parts = sum_by-append weight first (l ∷ last) in
          let own = sum_by-cons weight l last in
          omega (arith, all, parts, own)

  layers_stage : Stage format (layer_rows f) f.layers
  layers_stage = record { keys = λ n x. refl; formats = λ n x. refl; adds = λ done x. refl; fits = layer_fit }

  pub layers_said : (more : List FarmRow) (said : Result Said StoredKey) → ((last : Option StoredKey) → IsPast last 7 → farm_with format last (upto_layers f f.layers) more ≡ said)
      → (last : Option StoredKey) → IsPast last 6 → farm_with format last (upto_layers f []) (map row.Layer f.layers ++ more) ≡ said
  layers_said more said next last past =
      ap (λ (rows : List FarmRow). farm_with format last (upto_layers f []) (rows ++ more)) (sym (numbered_map row.Layer 0 f.layers))
      ∙ all_staged format (layer_rows f) f.layers layers_stage more said next last 0 6 (omega arith) (by_keys layer_key 0 0 f.layers (MOST_LAYERS * f.next_job) k.layers_rise) past
