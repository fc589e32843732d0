-- A job that is paused or goes on leaves what every farm keeps.
use Rattle.std.proofs.Common.{◌≡◌, ℕ, Bool, true, eqb, List, map, length, Option, Some, None, refl, sym, ap, subst, ◌∙◌, arith}
use Rattle.std.specs.List.{IsDistinct, filter, find, list_all}
use Rattle.std.specs.Prelude.{bytes_eq, nat_eq}
use Rattle.std.proofs.lemmas.List.{length-map}
use Rattle.std.proofs.lemmas.List.Folds.{list_all-map}
use Rattle.farm_types.specs.declared.rows.JobRow.{JobRow}
use Rattle.farm_types.specs.declared.rows.LayerRow.{LayerRow}
use Rattle.farm_types.specs.Farm.{Farm, for_some}
use Rattle.farm_types.specs.Finish.{is_finished}
use Rattle.farm_types.specs.Jobs.{JobLists}
use Rattle.farm_types.specs.Kept.{HasItsLayers, KeepsJobs, KeepsRows, finish_of, has_its_counts, has_its_finish, is_formed_job, is_of_pending, is_pending_job, job_label}
use Rattle.farm_types.specs.Operators.{paused_row, with_paused}
use Rattle.farm_types.specs.Rising.{job_key}
use Rattle.farm_types.specs.Step.{lists_of}
use Rattle.farm_types.proofs.Changed.{mapped_each}
use Rattle.farm_types.proofs.ChangedLists.{map-map_kept}
use Rattle.farm_types.proofs.Passes.{cond_each}
use Rattle.farm_law.proofs.KeptAttempts.{attempts_left}
use Rattle.farm_law.proofs.KeptChanges.{named_by, sound_by}
use Rattle.farm_law.proofs.KeptJobsLists.{rising-map}
use Rattle.farm_law.proofs.KeptServes.{left_same}
use Rattle.farm_law.proofs.Paused.{filter-map, find-map, for_some-map, pause_law, unread}

module _ (job : ℕ) (paused : Bool) (jobs : List JobRow) where
  abbrev changed : List JobRow
  changed = map (paused_row job paused) jobs

  pending_same : (j : JobRow) → is_pending_job (paused_row job paused j) ≡ is_pending_job j
  pending_same = unread is_pending_job (λ j b. refl) job paused

  -- as many are pending
  pending_are : filter is_pending_job changed ≡ map (paused_row job paused) (filter is_pending_job jobs)
  pending_are = filter-map (paused_row job paused) is_pending_job pending_same jobs

  -- the same are finished, in the same order
  finished_are : filter is_finished changed ≡ map (paused_row job paused) (filter is_finished jobs)
  finished_are = filter-map (paused_row job paused) is_finished (unread is_finished (λ j b. refl) job paused) jobs

  finishes_are : map finish_of (filter is_finished changed) ≡ map finish_of (filter is_finished jobs)
  finishes_are = ap (map finish_of) finished_are ∙ map-map_kept finish_of (paused_row job paused) (unread finish_of (λ j b. refl) job paused) (filter is_finished jobs)

  finishes_known : (next : ℕ) → list_all (has_its_finish next) changed ≡ list_all (has_its_finish next) jobs
  finishes_known next =
      list_all-map (has_its_finish next) (paused_row job paused) jobs
      ∙ ap (λ (test : JobRow → Bool). list_all test jobs) (λ i j. unread (has_its_finish next) (λ x b. refl) job paused j i)

  counts_known : list_all has_its_counts changed ≡ list_all has_its_counts jobs
  counts_known =
      list_all-map has_its_counts (paused_row job paused) jobs ∙ ap (λ (test : JobRow → Bool). list_all test jobs) (λ i j. unread has_its_counts (λ x b. refl) job paused j i)

  names_are : map job_label changed ≡ map job_label jobs
  names_are = map-map_kept job_label (paused_row job paused) (unread job_label (λ j b. refl) job paused) jobs

  formed_are : (shows : ℕ) → list_all (is_formed_job shows) changed ≡ list_all (is_formed_job shows) jobs
  formed_are shows =
      list_all-map (is_formed_job shows) (paused_row job paused) jobs
      ∙ ap (λ (test : JobRow → Bool). list_all test jobs) (λ i j. unread (is_formed_job shows) (λ x b. refl) job paused j i)

  -- the same jobs are pending
  pub still_pending : (n : ℕ) → is_of_pending changed n ≡ is_of_pending jobs n
  still_pending n =
      ap (λ (o : Option JobRow). for_some o is_pending_job) (find-map (paused_row job paused) (λ (j : JobRow). eqb j.job n) (unread (λ j. eqb j.job n) (λ x b. refl) job paused) jobs)
      ∙ for_some-map (paused_row job paused) (find (λ (j : JobRow). eqb j.job n) jobs) is_pending_job pending_same

-- one has its layers
layered_row : (layers : List LayerRow) (job : ℕ) (paused : Bool) (j : JobRow) → (is_pending_job j ≡ true → HasItsLayers layers j) → is_pending_job (paused_row job paused j) ≡ true → HasItsLayers layers (paused_row job paused j)
layered_row layers job paused j has =
    cond_each (λ (x : JobRow). is_pending_job x ≡ true → HasItsLayers layers x) (eqb j.job job) (record j { paused = paused }) j
    (λ pending. let own = has pending in record { places = own.places; differ = own.differ; frames = own.frames }) has

pub keeps_paused : (b : JobLists) (job : ℕ) (paused : Bool) (shows : ℕ) → KeepsJobs b shows → KeepsJobs (record b { jobs = map (paused_row job paused) b.jobs }) shows
keeps_paused b job paused shows kept =
    let count = ap length (pending_are job paused b.jobs) ∙ length-map (filter is_pending_job b.jobs) (paused_row job paused) in
    let finished = ap length (finished_are job paused b.jobs) ∙ length-map (filter is_finished b.jobs) (paused_row job paused) in
    record {
      next_within = kept.next_within;
      finish_from = kept.finish_from;
      finish_within = omega (arith, count, kept.finish_within);
      finished_count = omega (arith, finished, kept.finished_count);
      finishes_within = finishes_known job paused b.jobs b.next_finish ∙ kept.finishes_within;
      finishes_differ = subst (IsDistinct nat_eq) (sym (finishes_are job paused b.jobs)) kept.finishes_differ;
      jobs_counted = counts_known job paused b.jobs ∙ kept.jobs_counted;
      jobs_rise = rising-map job_key (paused_row job paused) (unread job_key (λ x p. refl) job paused) 1 b.jobs b.next_job kept.jobs_rise;
      jobs_formed = formed_are job paused b.jobs shows ∙ kept.jobs_formed;
      jobs_differ = subst (IsDistinct bytes_eq) (sym (names_are job paused b.jobs)) kept.jobs_differ;
      jobs_layered =
          mapped_each (λ n j. is_pending_job j ≡ true → HasItsLayers b.layers j) b.jobs (paused_row job paused)
          (λ n j at. layered_row b.layers job paused j (kept.jobs_layered n j at));
      layers_rise = kept.layers_rise;
      layers_formed = kept.layers_formed;
      layers_owned = ap (λ (test : LayerRow → Bool). list_all test b.layers) (λ i l. still_pending job paused b.jobs l.job i) ∙ kept.layers_owned;
      slot_count = kept.slot_count;
      slots_kept = kept.slots_kept;
      frames_once = kept.frames_once;
      frames_there = kept.frames_there;
      ends_used = kept.ends_used;
    }

pub kept_pause : (f : Farm) (paused : Bool) (o : Option JobRow) → KeepsRows f → KeepsRows (with_paused f paused o)
kept_pause f paused None k = k
kept_pause f paused (Some j) k =
    let g = with_paused f paused (Some j) in
    let law = pause_law f paused (Some j) in
    record {
      moment_within = k.moment_within;
      shows = k.shows;
      allocs = k.allocs;
      subs = k.subs;
      limits = k.limits;
      hosts = k.hosts;
      jobs = keeps_paused (lists_of f) j.job paused (length f.shows) k.jobs;
      attempts = attempts_left f g (named_by f g law.rows refl refl refl) (left_same f) k;
      sound = sound_by f g law k;
    }
