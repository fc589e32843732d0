-- Jobs by their numbers, and the list of jobs once one finished: which jobs are found as they were.
use Rattle.std.proofs.Common.{◌≡◌, ℕ, suc, zero, ◌+◌, ◌≤◌, Bool, true, false, cond, not, ◌&&◌, ◌||◌, eqb, leb, ltb, List, [], ◌∷◌, map, length, Some, refl, sym, ap, subst, ◌∙◌, option_map, arith}
use Rattle.std.specs.List.{filter, find, list_all, slice_get}
use Rattle.std.proofs.lemmas.Bool.{eq-eqb, eqb-true, ne_eqb}
use Rattle.std.proofs.lemmas.Option.{none-some, same_Some}
use Rattle.farm_types.specs.declared.limits.TheConstants.{MOST_FINISHED}
use Rattle.farm_types.specs.declared.rows.JobRow.{JobRow}
use Rattle.farm_types.specs.declared.slot_row.SlotRow.{SlotRow}
use Rattle.farm_types.specs.Booking.{is_pending}
use Rattle.farm_types.specs.Finish.{cut_finished, finished_row, is_finished, is_first_finished}
use Rattle.farm_types.specs.Rising.{IsRising, job_key}
use Rattle.farm_types.proofs.Lists.{found_is}
use Rattle.farm_types.proofs.Passes.{cond_each}
use Rattle.farm_law.proofs.Filtered.{found_kept}
use Rattle.farm_law.proofs.Paused.{find-map}

-- ---- jobs by their numbers

at_least : (low : ℕ) (jobs : List JobRow) (high n : ℕ) (j : JobRow) → IsRising job_key low jobs high → slice_get jobs n ≡ Some j → low ≤ j.job
at_least low [] high n j rise at = absurd (none-some j at)
at_least low (k ∷ ks) high zero j rise at = subst (λ (x : JobRow). low ≤ x.job) (same_Some k j at) rise.0
at_least low (k ∷ ks) high (suc n) j rise at = omega (arith, rise.0, at_least (k.job + 1) ks high n j rise.1 at)

-- each job is found by its number
pub found_by_number : (low : ℕ) (jobs : List JobRow) (high n : ℕ) (j : JobRow) → IsRising job_key low jobs high → slice_get jobs n ≡ Some j → find (λ (k : JobRow). eqb k.job j.job) jobs ≡ Some j
found_by_number low [] high n j rise at = absurd (none-some j at)
found_by_number low (k ∷ ks) high zero j rise at =
    let same = same_Some k j at in
    ap (λ (b : Bool). cond b (Some k) (find (λ (x : JobRow). eqb x.job j.job) ks)) (eq-eqb k.job j.job (ap job_key same)) ∙ at
found_by_number low (k ∷ ks) high (suc n) j rise at =
    let above = at_least (k.job + 1) ks high n j rise.1 at in
    ap (λ (b : Bool). cond b (Some k) (find (λ (x : JobRow). eqb x.job j.job) ks)) (ne_eqb k.job j.job (λ e. omega (arith, above, e)))
    ∙ found_by_number (k.job + 1) ks high n j rise.1 at

-- ---- once one finished

module _ (job : ℕ) (slots : List SlotRow) (finish : ℕ) where
  -- a job, finished where it is that one
  abbrev pub finished_if : JobRow → JobRow
  finished_if j = cond (eqb j.job job) (finished_row slots finish j) j

  -- all, with that one finished
  abbrev pub all_finished : List JobRow → List JobRow
  all_finished jobs = map finished_if jobs

  -- what isn't told of the finish says the same of it
  pub unchanged : {X : Type 0} (read : JobRow → X) → ((j : JobRow) → read (finished_row slots finish j) ≡ read j) → (j : JobRow) → read (finished_if j) ≡ read j
  unchanged read same j = cond_each (λ (x : JobRow). read x ≡ read j) (eqb j.job job) (finished_row slots finish j) j (same j) refl

  pub finished_other : (j : JobRow) → eqb j.job job ≡ false → finished_if j ≡ j
  finished_other j other = ap (λ (b : Bool). cond b (finished_row slots finish j) j) other

  -- a job that is pending is none that is left out
  pub pending_uncut : (jobs : List JobRow) (j : JobRow) → is_pending j.state ≡ true → not (is_first_finished jobs j) ≡ true
  pending_uncut jobs j pending = ap (λ (b : Bool). not (not b && list_all (λ (k : JobRow). is_pending k.state || leb j.finish k.finish) jobs)) pending

  found_uncut : (n : ℕ) (jobs : List JobRow) (j : JobRow) → find (λ (k : JobRow). eqb k.job n) jobs ≡ Some j → is_pending j.state ≡ true → find (λ (k : JobRow). eqb k.job n) (cut_finished jobs) ≡ Some j
  found_uncut n jobs j at pending =
      let test = λ (k : JobRow). eqb k.job n in
      let keep = λ (k : JobRow). not (is_first_finished jobs k) in
      cond_each (λ (ks : List JobRow). find test ks ≡ Some j) (ltb MOST_FINISHED (length (filter is_finished jobs))) (filter keep jobs) jobs (found_kept test keep jobs j at (pending_uncut jobs j pending)) at

  -- another pending job is found as it was
  pub still_found : (n : ℕ) (jobs : List JobRow) (j : JobRow) → eqb n job ≡ false → find (λ (k : JobRow). eqb k.job n) jobs ≡ Some j → is_pending j.state ≡ true → find (λ (k : JobRow). eqb k.job n) (cut_finished (all_finished jobs)) ≡ Some j
  still_found n jobs j other at pending =
      let test = λ (k : JobRow). eqb k.job n in
      let number : j.job ≡ n = eqb-true j.job n (found_is test jobs j at) in
      let stays : finished_if j ≡ j = finished_other j (subst (λ (m : ℕ). eqb m job ≡ false) (sym number) other) in
      found_uncut n (all_finished jobs) j (find-map finished_if test (unchanged test (λ k. refl)) jobs ∙ (ap (option_map finished_if) at ∙ ap Some stays)) pending
