-- Jobs that finish one after the other: what the farm is at the turn of each.
use Rattle.std.proofs.Common.{◌≡◌, ◌≤◌, ◌<◌, ℕ, zero, suc, ◌+◌, ◌-◌, true, cond, eqb, List, [], ◌∷◌, ◌++◌, take, drop, map, filter, length, Some, refl, sym, ap, subst, ◌∙◌, arith, length-append}
use Rattle.std.specs.List.{AllByRecursion, slice_get}
use Rattle.std.proofs.lemmas.Bool.{ne_eqb}
use Rattle.std.proofs.lemmas.Option.{none-some, same_Some}
use Rattle.farm_types.specs.declared.rows.JobRow.{JobRow}
use Rattle.farm_types.specs.Farm.{Farm}
use Rattle.farm_types.specs.Finish.{cut_finished, finished_row}
use Rattle.farm_types.specs.Kept.{KeepsDepends, KeepsRows, is_of_pending, is_pending_job}
use Rattle.farm_types.specs.Rising.{IsRising, job_key}
use Rattle.farm_types.specs.Step.{finish_each, finish_one}
use Rattle.farm_types.specs.declared.limits.TheConstants.{MOST_FINISHED}
use Rattle.depend_law.specs.Ending.{CanEnd, Ends}
use Rattle.depend_law.proofs.Finishes.{finish_keeps}
use Rattle.farm_law.proofs.Filtered.{filter_among}
use Rattle.farm_law.proofs.FinishedKept.{kept_one, later_ends, number}
use Rattle.farm_law.proofs.FinishedOne.{is_among}
use Rattle.job_book.specs.Book.{without_job}
use Rattle.job_book.specs.Finished.{finished_of, leaver}
use Rattle.job_book.proofs.EndingLemmas.FinishOrder.{as_many, cut_is}
use Rattle.farm_finish.proofs.TurnLemmas.Leavers.{order_next}
use Rattle.farm_finish.proofs.TurnLemmas.OthersStay.{Stays, stays_one, stays_same, stays_then}

-- there is a pending job
pending_some : (job : ℕ) (f : Farm) → KeepsRows f → is_of_pending f.jobs job ≡ true → 1 ≤ length (filter is_pending_job f.jobs)
pending_some job f rows pending =
    let among = is_among job 1 f.jobs f.next_job rows.jobs.jobs_rise pending in
    let is = ap (filter is_pending_job) among.are ∙ filter_among is_pending_job among.before among.itself among.behind true among.pending in
    omega (arith, ap length is, length-append (filter is_pending_job among.before) (among.itself ∷ filter is_pending_job among.behind))

from_zero : (js : List JobRow) (high : ℕ) → IsRising job_key 1 js high → IsRising job_key 0 js high
from_zero [] high rise = omega arith
from_zero (j ∷ js) high rise = (omega arith, rise.1)

pub number_below : (f : Farm) (job : ℕ) → KeepsRows f → is_of_pending f.jobs job ≡ true → f.next_finish < 4294967296
number_below f job rows pending = omega (arith, rows.jobs.finish_within, rows.jobs.next_within, pending_some job f rows pending)

abbrev pub CutsBy : Farm → ℕ → Type 0
CutsBy f job =
    (cut_finished (map (λ (j : JobRow). cond (eqb j.job job) (finished_row f.slots f.next_finish j) j) f.jobs) ≡ without_job (leaver (finished_of f.jobs ++ job ∷ [])) (map (λ (j : JobRow). cond (eqb j.job job) (finished_row f.slots f.next_finish j) j) f.jobs))
    × (finished_of (finish_one job f).jobs ≡ drop (length (finished_of f.jobs ++ job ∷ []) - MOST_FINISHED) (finished_of f.jobs ++ job ∷ []))

-- the finished job that leaves, and the order of those that are left
pub cut_at : (f : Farm) (job : ℕ) (rows : KeepsRows f) (pending : is_of_pending f.jobs job ≡ true) → CutsBy f job
cut_at f job rows pending =
    cut_is job f.next_finish f.slots f.jobs f.next_job (omega (arith, rows.jobs.next_within)) (from_zero f.jobs f.next_job rows.jobs.jobs_rise) pending (number_below f job rows pending) rows.jobs.finishes_within rows.jobs.finished_count rows.jobs.finishes_differ

-- The farm at the turn of a job, after so many others. The job ends, nothing of it has changed, and those that were finished at first and then the others are finished in order, as
-- many of the last ones as are kept.
pub record AtTurn (f : Farm) (jobs : List ℕ) (i job : ℕ) : Type 0 where
  pub rows : KeepsRows (finish_each (take i jobs) f)
  pub depends : KeepsDepends (finish_each (take i jobs) f)
  pub ends : Ends (finish_each (take i jobs) f) job
  pub stays : Stays f (finish_each (take i jobs) f) job
  pub finish : (finish_each (take i jobs) f).next_finish ≡ f.next_finish + i
  pub order : finished_of (finish_each (take i jobs) f).jobs ≡ drop (length (finished_of f.jobs) + i - MOST_FINISHED) (finished_of f.jobs ++ take i jobs)

-- the others stay
later_stay : (job : ℕ) (f : Farm) (low : ℕ) (jobs : List ℕ) (high : ℕ) → job < low → IsRising number low jobs high → AllByRecursion (Ends f) jobs → AllByRecursion (Stays f (finish_one job f)) jobs
later_stay job f low [] high less rise all = tt
later_stay job f low (n ∷ ns) high less rise all =
    let other = ne_eqb n job (λ e. omega (arith, rise.0, less, e)) in
    (stays_one job n other f all.0.0, later_stay job f (n + 1) ns high (omega (arith, rise.0, less)) rise.1 all.1)

at_place : (P : ℕ → Type 0) (jobs : List ℕ) (i job : ℕ) → AllByRecursion P jobs → slice_get jobs i ≡ Some job → P job
at_place P [] i job all at = absurd (none-some job at)
at_place P (n ∷ ns) zero job all at = subst P (same_Some n job at) all.0
at_place P (n ∷ ns) (suc i) job all at = at_place P ns i job all.1 at

few_finished : (f : Farm) → KeepsRows f → length (finished_of f.jobs) ≤ MOST_FINISHED
few_finished f rows = omega (arith, rows.jobs.finished_count, as_many f.jobs)

append_nil : (xs : List ℕ) → xs ++ [] ≡ xs
append_nil [] = refl
append_nil (x ∷ xs) = ap (λ (ns : List ℕ). x ∷ ns) (append_nil xs)

turn_from : (low : ℕ) (jobs : List ℕ) (high : ℕ) (f : Farm) → IsRising number low jobs high → AllByRecursion (Ends f) jobs → KeepsRows f → KeepsDepends f → length (finished_of f.jobs) ≤ MOST_FINISHED
    → (i job : ℕ) → slice_get jobs i ≡ Some job → AtTurn f jobs i job
turn_from low [] high f rise all rows depends few i job at = absurd (none-some job at)
turn_from low (n ∷ ns) high f rise all rows depends few zero job at =
    let none : length (finished_of f.jobs) + 0 - MOST_FINISHED ≡ 0 = omega (arith, few) in
    record {
      rows = rows;
      depends = depends;
      ends = subst (Ends f) (same_Some n job at) all.0;
      stays = stays_same f job;
      finish = omega arith;
      order = sym (append_nil (finished_of f.jobs)) ∙ sym (ap (λ (k : ℕ). drop k (finished_of f.jobs ++ [])) none);
    }
turn_from low (n ∷ ns) high f rise all rows depends few (suc i) job at =
    let next = finish_one n f in
    let cut = cut_at f n rows all.0.0 in
    let few_then = few_finished next (kept_one n f rows all.0) in
    let later = turn_from (n + 1) ns high next rise.1 (later_ends n f (n + 1) ns high (omega arith) rise.1 all.1) (kept_one n f rows all.0) (finish_keeps f rows depends n all.0.0 all.0.1) few_then i job at in
    let others = later_stay n f (n + 1) ns high (omega arith) rise.1 all.1 in
    record {
      rows = later.rows;
      depends = later.depends;
      ends = later.ends;
      stays = stays_then f next (finish_each (take i ns) next) job (at_place (Stays f next) ns i job others at) later.stays;
      finish = omega (arith, later.finish);
      order =
          later.order
          ∙ (ap (λ (order : List ℕ). drop (length order + i - MOST_FINISHED) (order ++ take i ns)) cut.1
          ∙ order_next (finished_of f.jobs) (take i ns) n i);
    }

pub at_turn : (f : Farm) (jobs : List ℕ) → CanEnd f jobs → (i job : ℕ) → slice_get jobs i ≡ Some job → AtTurn f jobs i job
at_turn f jobs can i job at = turn_from 1 jobs f.next_job f can.rise can.ends can.settled.rows can.settled.depends (few_finished f can.settled.rows) i job at

pub ends_at : (f : Farm) (jobs : List ℕ) → CanEnd f jobs → (i job : ℕ) → slice_get jobs i ≡ Some job → Ends f job
ends_at f jobs can i job at = at_place (Ends f) jobs i job can.ends at

-- one turn more
pub each_next : (jobs : List ℕ) (i job : ℕ) (f : Farm) → slice_get jobs i ≡ Some job → finish_each (take (suc i) jobs) f ≡ finish_one job (finish_each (take i jobs) f)
each_next [] i job f at = absurd (none-some job at)
each_next (n ∷ ns) zero job f at = ap (λ (k : ℕ). finish_one k f) (same_Some n job at)
each_next (n ∷ ns) (suc i) job f at = each_next ns i job (finish_one n f) at
