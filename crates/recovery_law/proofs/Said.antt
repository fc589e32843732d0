-- The rows of a farm that is kept say that farm, in each format that it has.
use Rattle.std.proofs.Common.{◌≡◌, ℕ, ◌+◌, Bool, true, false, cond, inl, inr, [], ◌++◌, map, None, Some, Ok, refl, ap, sym, subst, ◌∙◌, ◌^◌, arith}
use Rattle.std.proofs.lemmas.Bool.{le-leb, lt-ltb}
use Rattle.std.specs.Cmp.Derive.{both_true}
use Rattle.farm_types.specs.declared.limits.TheConstants.{LAST_DEPEND, LAST_JOB}
use Rattle.farm_types.specs.Farm.{Farm, empty_farm}
use Rattle.farm_types.specs.Forms.{is_between}
use Rattle.farm_types.specs.Kept.{IsKeptFarm}
use Rattle.farm_types.specs.Rising.{depend_key, job_key}
use Rattle.farm_law.proofs.KeptJobsLists.{rising_within}
use Rattle.farm_rows.specs.declared.farm_row.FarmRow.TheVariants as row
use Rattle.farm_rows.specs.declared.head_row.TheConstants.{ROW_FORMAT}
use Rattle.farm_rows.specs.Recovery.{Said, farm_said, head_fits}
use Rattle.farm_rows.specs.Rows.{HasRowsIn, head_in, numbered, recorded_in, rows_in, rows_of, slot_rows}
use Rattle.recovery_law.proofs.SaidDepends.{depends_said}
use Rattle.recovery_law.proofs.SaidLimits.{HasFormat, limits_said}
use Rattle.recovery_law.proofs.SaidMet.{met_said}
use Rattle.recovery_law.proofs.SaidJobs.{jobs_said, layers_said}
use Rattle.recovery_law.proofs.SaidSlots.{slots_said}
use Rattle.recovery_law.proofs.SaidShows.{allocs_said, hosts_said, shows_said, subs_said}
use Rattle.recovery_law.proofs.Stage.{past_key, row_next}

module _ (format : ℕ) (f : Farm) (known : is_between 1 ROW_FORMAT format ≡ true) (has : HasFormat format f) (k : IsKeptFarm f) where
  -- the first row
  head_fit : head_fits empty_farm (head_in format f) ≡ true
  head_fit =
      let jobs = k.rows.jobs in
      let from_depends = rising_within depend_key 1 f.depends f.next_depend k.depends.rise in
      let from_jobs = rising_within job_key 1 f.jobs f.next_job jobs.jobs_rise in
      both_true known
      (both_true (lt-ltb f.moment (2 ^ 64) k.rows.moment_within)
      (both_true (both_true (le-leb 1 f.next_depend from_depends) (le-leb f.next_depend (LAST_DEPEND + 1) k.depends.next_within))
      (both_true (both_true (le-leb 1 f.next_finish jobs.finish_from) (le-leb f.next_finish (LAST_JOB + 1) (omega (arith, jobs.finish_within, jobs.next_within))))
      (both_true (le-leb 1 f.next_job from_jobs) (le-leb f.next_job (LAST_JOB + 1) jobs.next_within)))))

  abbrev itself : Said
  itself = record { farm = f; format = format }

  recorded_say : f.recorded ≡ true → farm_said (recorded_in format f) ≡ Ok itself
  recorded_say is =
      let from_limits = numbered row.Limit 0 f.limits in
      let from_met = map row.Met f.met ++ from_limits in
      let from_depends = map row.Depend f.depends ++ from_met in
      let from_slots = slot_rows 0 f.slots ++ from_depends in
      let from_layers = map row.Layer f.layers ++ from_slots in
      let from_jobs = map row.Job f.jobs ++ from_layers in
      let from_hosts = numbered row.Host 0 f.hosts ++ from_jobs in
      let from_subs = map row.Sub f.subs ++ from_hosts in
      let from_allocs = numbered row.Alloc 0 f.allocs ++ from_subs in
      row_next ROW_FORMAT None empty_farm (row.Head (head_in format f)) (numbered row.Show 0 f.shows ++ from_allocs) refl head_fit
      ∙ shows_said format f k.rows from_allocs (Ok itself)
      (allocs_said format f k.rows from_subs (Ok itself)
      (subs_said format f k.rows from_hosts (Ok itself)
      (hosts_said format f k.rows from_jobs (Ok itself)
      (jobs_said format f k.rows.jobs from_layers (Ok itself)
      (layers_said format f k.rows.jobs from_slots (Ok itself)
      (slots_said format f k.rows from_depends (Ok itself)
      (depends_said format f k from_met (Ok itself)
      (met_said format f k from_limits (Ok itself)
      (limits_said format f k has is))))))))) (Some (1, 0)) (past_key 1 0)

-- of a farm that an entry has made
made_say : (format : ℕ) (f : Farm) → is_between 1 ROW_FORMAT format ≡ true → HasFormat format f → IsKeptFarm f → f.recorded ≡ true → farm_said (rows_in format f) ≡ Ok (record { farm = f; format = format })
made_say format f known has k is = ap (λ (b : Bool). farm_said (cond b (recorded_in format f) [])) is ∙ recorded_say format f known has k is

say_by : (f : Farm) (b : Bool) → IsKeptFarm f → f.recorded ≡ b → farm_said (rows_of f) ≡ Ok (record { farm = f; format = ROW_FORMAT })
say_by f true k is = made_say ROW_FORMAT f refl (inl refl) k is
say_by f false k is = subst (λ (g : Farm). farm_said (rows_of g) ≡ Ok (record { farm = g; format = ROW_FORMAT })) (sym (k.record_kept is)) refl

-- in the format in which rows are written, of each farm
pub rows_say : (f : Farm) → IsKeptFarm f → farm_said (rows_of f) ≡ Ok (record { farm = f; format = ROW_FORMAT })
rows_say f k = say_by f f.recorded k refl

-- in each format that the farm has
pub rows_say_in : (format : ℕ) (f : Farm) → IsKeptFarm f → HasRowsIn format f → farm_said (rows_in format f) ≡ Ok (record { farm = f; format = format })
rows_say_in format f k (inl same) = subst (λ (n : ℕ). farm_said (rows_in n f) ≡ Ok (record { farm = f; format = n })) (sym same) (rows_say f k)
rows_say_in format f k (inr old) =
    subst (λ (n : ℕ). farm_said (rows_in n f) ≡ Ok (record { farm = f; format = n })) (sym old.0) (made_say 1 f refl (inr old.2) k old.1)
