-- The one job that finishes among jobs in the order of their numbers: how many are pending and finished then, and by which numbers.
use Rattle.std.proofs.Common.{◌≡◌, ℕ, ◌+◌, ◌<◌, ◌≤◌, Bool, true, false, cond, not, ◌&&◌, ◌||◌, eqb, leb, ltb, List, [], ◌∷◌, ◌++◌, map, length, Some, refl, sym, ap, subst, ◌∙◌, arith, length-append, inl, inr}
use Rattle.std.specs.Prelude.{nat_eq}
use Rattle.std.specs.Cmp.Derive.{both_true}
use Rattle.std.specs.List.{AllByRecursion, IsDistinct, filter, find, list_all}
use Rattle.std.proofs.lemmas.Bool.{eqb-true, false≢true, lt-ltb, ltb-false, ltb-true, ne_eqb, not-true, not_from_false}
use Rattle.std.proofs.lemmas.List.{map-append}
use Rattle.std.proofs.lemmas.List.Folds.{list_all-map}
use Rattle.farm_types.specs.declared.limits.TheConstants.{MOST_FINISHED}
use Rattle.farm_types.specs.declared.rows.JobRow.{JobRow}
use Rattle.farm_types.specs.declared.slot_row.SlotRow.{SlotRow}
use Rattle.farm_types.specs.Booking.{is_pending}
use Rattle.farm_types.specs.Farm.{for_some}
use Rattle.farm_types.specs.Finish.{cut_finished, finished_row, is_finished, is_first_finished}
use Rattle.farm_types.specs.Kept.{finish_of, has_its_finish, is_of_pending, is_pending_job}
use Rattle.farm_types.specs.Rising.{IsRising, job_key}
use Rattle.farm_types.proofs.Lists.{and_both, list_all-at}
use Rattle.farm_types.proofs.Passes.{cond_each}
use Rattle.farm_law.proofs.Filtered.{HasLeast, differ-among, differ-filter, filter_among, filter_swap, filter_within, has_least, kept_at, one_gone}
use Rattle.farm_law.proofs.FinishedJobs.{all_finished, finished_if, finished_other}
use Rattle.farm_law.proofs.KeptJobsLists.{filter_none}
use Rattle.farm_law.proofs.KeptLists.{list_all-weaker}

-- ---- the job among the others

abbrev pub is_other : ℕ → JobRow → Bool
is_other job j = not (eqb j.job job)

-- the pending job of that number stands between others
pub record IsAmong (job : ℕ) (jobs : List JobRow) : Type 0 where
  pub before : List JobRow
  pub itself : JobRow
  pub behind : List JobRow
  pub are : jobs ≡ before ++ itself ∷ behind
  pub number : eqb itself.job job ≡ true
  pub pending : is_pending itself.state ≡ true
  pub others_before : list_all (is_other job) before ≡ true
  pub others_behind : list_all (is_other job) behind ≡ true

others_above : (job low : ℕ) (js : List JobRow) (high : ℕ) → IsRising job_key low js high → job < low → list_all (is_other job) js ≡ true
others_above job low [] high rise less = refl
others_above job low (j ∷ js) high rise less =
    both_true (not_from_false (eqb j.job job) (ne_eqb j.job job (λ e. omega (arith, rise.0, less, e)))) (others_above job (j.job + 1) js high rise.1 (omega (arith, rise.0, less)))

among_step : (job low : ℕ) (j : JobRow) (js : List JobRow) (high : ℕ) (b : Bool) → eqb j.job job ≡ b → IsRising job_key low (j ∷ js) high → (is_of_pending js job ≡ true → IsAmong job js)
    → for_some (cond b (Some j) (find (λ (k : JobRow). eqb k.job job) js)) is_pending_job ≡ true → IsAmong job (j ∷ js)
among_step job low j js high true is rise later there =
    let number = eqb-true j.job job is in
    record {
      before = [];
      itself = j;
      behind = js;
      are = refl;
      number = is;
      pending = there;
      others_before = refl;
      others_behind = others_above job (j.job + 1) js high rise.1 (omega (arith, number));
    }
among_step job low j js high false is rise later there =
    let rest = later there in
    record {
      before = j ∷ rest.before;
      itself = rest.itself;
      behind = rest.behind;
      are = ap (λ (ks : List JobRow). j ∷ ks) rest.are;
      number = rest.number;
      pending = rest.pending;
      others_before = both_true (not_from_false (eqb j.job job) is) rest.others_before;
      others_behind = rest.others_behind;
    }

pub is_among : (job low : ℕ) (js : List JobRow) (high : ℕ) → IsRising job_key low js high → is_of_pending js job ≡ true → IsAmong job js
is_among job low [] high rise there = absurd (false≢true there)
is_among job low (j ∷ js) high rise there = among_step job low j js high (eqb j.job job) refl rise (is_among job (j.job + 1) js high rise.1) there

-- ---- finishing numbers

below_step : (P : ℕ → Type 0) (next : ℕ) (j : JobRow) (kept : List JobRow) (b : Bool) → is_pending j.state ≡ b → ((n : ℕ) → n < next → P n) → cond b (eqb j.finish 0) (ltb 0 j.finish && ltb j.finish next) ≡ true → AllByRecursion P (map finish_of kept)
    → AllByRecursion P (map finish_of (cond (not b) (j ∷ kept) kept))
below_step P next j kept true is holds has rest = rest
below_step P next j kept false is holds has rest = (holds j.finish (ltb-true j.finish next (and_both (ltb 0 j.finish) (ltb j.finish next) has).1), rest)

-- those that finished have numbers below the next
finishes_below : (P : ℕ → Type 0) (next : ℕ) → ((n : ℕ) → n < next → P n) → (js : List JobRow) → list_all (has_its_finish next) js ≡ true → AllByRecursion P (map finish_of (filter is_finished js))
finishes_below P next holds [] all = tt
finishes_below P next holds (j ∷ js) all =
    let both = and_both (has_its_finish next j) (list_all (has_its_finish next) js) all in
    below_step P next j (filter is_finished js) (is_pending j.state) refl holds both.0 (finishes_below P next holds js both.1)

later_finish : (b : Bool) (n next : ℕ) → cond b (eqb n 0) (ltb 0 n && ltb n next) ≡ true → cond b (eqb n 0) (ltb 0 n && ltb n (next + 1)) ≡ true
later_finish true n next has = has
later_finish false n next has =
    let both = and_both (ltb 0 n) (ltb n next) has in
    both_true both.0 (lt-ltb n (next + 1) (omega (arith, ltb-true n next both.1)))

module _ (job : ℕ) (slots : List SlotRow) (finish : ℕ) where
  -- each has its number once the job has the next one
  pub finish_known : 1 ≤ finish → (jobs : List JobRow) → list_all (has_its_finish finish) jobs ≡ true → list_all (has_its_finish (finish + 1)) (all_finished job slots finish jobs) ≡ true
  finish_known from jobs all =
      list_all-map (has_its_finish (finish + 1)) (finished_if job slots finish) jobs
      ∙ list_all-weaker (has_its_finish finish) (λ j. has_its_finish (finish + 1) (finished_if job slots finish j))
      (λ j has.
      cond_each (λ (x : JobRow). has_its_finish (finish + 1) x ≡ true) (eqb j.job job) (finished_row slots finish j) j
      (both_true (lt-ltb 0 finish (omega (arith, from))) (lt-ltb finish (finish + 1) (omega arith)))
      (later_finish (is_pending j.state) j.finish finish has))
      jobs all

  others_stay : (js : List JobRow) → list_all (is_other job) js ≡ true → all_finished job slots finish js ≡ js
  others_stay [] all = refl
  others_stay (j ∷ js) all =
      let both = and_both (is_other job j) (list_all (is_other job) js) all in
      let first = finished_other job slots finish j (not-true (eqb j.job job) both.0) in
      let rest = others_stay js both.1 in
      λ i. first i ∷ rest i

  module _ (jobs : List JobRow) (among : IsAmong job jobs) where
    abbrev done : JobRow
    done = finished_row slots finish among.itself

    finished_are : all_finished job slots finish jobs ≡ among.before ++ done ∷ among.behind
    finished_are =
        let before = others_stay among.before among.others_before in
        let itself : finished_if job slots finish among.itself ≡ done = ap (λ (b : Bool). cond b done among.itself) among.number in
        let behind = others_stay among.behind among.others_behind in
        ap (all_finished job slots finish) among.are
        ∙ (map-append (finished_if job slots finish) among.before (among.itself ∷ among.behind) ∙ (λ i. before i ++ itself i ∷ behind i))

    -- one pending job fewer
    pub one_fewer : length (filter is_pending_job (all_finished job slots finish jobs)) + 1 ≡ length (filter is_pending_job jobs)
    one_fewer =
        let first = filter is_pending_job among.before in
        let last = filter is_pending_job among.behind in
        let new = ap (filter is_pending_job) finished_are ∙ filter_among is_pending_job among.before done among.behind false refl in
        let old = ap (filter is_pending_job) among.are ∙ filter_among is_pending_job among.before among.itself among.behind true among.pending in
        let long_new : length (filter is_pending_job (all_finished job slots finish jobs)) ≡ length first + length last = ap length new ∙ length-append first last in
        let long_old : length (filter is_pending_job jobs) ≡ length first + length (among.itself ∷ last) = ap length old ∙ length-append first (among.itself ∷ last) in
        omega (arith, long_new, long_old)

    abbrev first : List JobRow
    first = filter is_finished among.before

    abbrev last : List JobRow
    last = filter is_finished among.behind

    finished_new : filter is_finished (all_finished job slots finish jobs) ≡ first ++ done ∷ last
    finished_new = ap (filter is_finished) finished_are ∙ filter_among is_finished among.before done among.behind true refl

    finished_old : filter is_finished jobs ≡ first ++ last
    finished_old = ap (filter is_finished) among.are ∙ filter_among is_finished among.before among.itself among.behind false (ap not among.pending)

    -- one finished job more
    pub one_more : length (filter is_finished (all_finished job slots finish jobs)) ≡ length (filter is_finished jobs) + 1
    one_more =
        let long_new : length (filter is_finished (all_finished job slots finish jobs)) ≡ length first + length (done ∷ last) = ap length finished_new ∙ length-append first (done ∷ last) in
        let long_old : length (filter is_finished jobs) ≡ length first + length last = ap length finished_old ∙ length-append first last in
        omega (arith, long_new, long_old)

    known_parts : list_all (has_its_finish finish) jobs ≡ true → (list_all (has_its_finish finish) among.before ≡ true) × (list_all (has_its_finish finish) among.behind ≡ true)
    known_parts all = parts among.before (subst (λ (js : List JobRow). list_all (has_its_finish finish) js ≡ true) among.are all)
      where
        parts : (xs : List JobRow) → list_all (has_its_finish finish) (xs ++ among.itself ∷ among.behind) ≡ true → (list_all (has_its_finish finish) xs ≡ true) × (list_all (has_its_finish finish) among.behind ≡ true)
        parts [] h = (refl, (and_both (has_its_finish finish among.itself) (list_all (has_its_finish finish) among.behind) h).1)
        parts (x ∷ xs) h =
            let both = and_both (has_its_finish finish x) (list_all (has_its_finish finish) (xs ++ among.itself ∷ among.behind)) h in
            let rest = parts xs both.1 in
            (both_true both.0 rest.0, rest.1)

    -- finishing numbers still differ
    pub finishes_apart : list_all (has_its_finish finish) jobs ≡ true → IsDistinct nat_eq (map finish_of (filter is_finished jobs)) → IsDistinct nat_eq (map finish_of (filter is_finished (all_finished job slots finish jobs)))
    finishes_apart all differ =
        let parts = known_parts all in
        let old : map finish_of (filter is_finished jobs) ≡ map finish_of first ++ map finish_of last = ap (map finish_of) finished_old ∙ map-append finish_of first last in
        let new : map finish_of (filter is_finished (all_finished job slots finish jobs)) ≡ map finish_of first ++ finish ∷ map finish_of last = ap (map finish_of) finished_new ∙ map-append finish_of first (done ∷ last) in
        subst (IsDistinct nat_eq) (sym new)
        (differ-among nat_eq (map finish_of first) (map finish_of last) finish (subst (IsDistinct nat_eq) old differ)
        (finishes_below (λ n. eqb n finish ≡ false) finish (λ n below. ne_eqb n finish (λ e. omega (arith, below, e))) among.before parts.0)
        (finishes_below (λ n. eqb finish n ≡ false) finish (λ n below. ne_eqb finish n (λ e. omega (arith, below, e))) among.behind parts.1))

-- ---- at most so many are kept

module _ (jobs : List JobRow) where
  abbrev pub stays : JobRow → Bool
  stays j = not (is_first_finished jobs j)

  abbrev skipped : JobRow → Bool
  skipped j = is_pending j.state

  -- more than so many aren't none
  some_finished : MOST_FINISHED < length (filter is_finished jobs) → list_all skipped jobs ≡ true → ⊥
  some_finished many all =
      let none : filter is_finished jobs ≡ [] = filter_none is_finished jobs (λ n j at. ap not (list_all-at skipped jobs n j all at)) in
      let nothing : length (filter is_finished jobs) ≡ 0 = ap length none in
      omega (arith, many, nothing)

  -- the one that finished first goes
  one_goes : MOST_FINISHED < length (filter is_finished jobs) → HasLeast skipped finish_of jobs → length (filter is_finished (filter stays jobs)) + 1 ≤ length (filter is_finished jobs)
  one_goes many (inl all) = absurd (some_finished many all)
  one_goes many (inr least) =
      let is : is_finished least.1 ≡ true = ap not least.3 in
      let place = kept_at is_finished jobs least.0 least.1 least.2 is in
      let goes : stays least.1 ≡ false = ap not (both_true is least.4) in
      omega (arith, ap length (filter_swap is_finished stays jobs), one_gone stays (filter is_finished jobs) place.0 least.1 place.1 goes)

  cut_step : (b : Bool) → ltb MOST_FINISHED (length (filter is_finished jobs)) ≡ b → length (filter is_finished jobs) ≤ MOST_FINISHED + 1 → length (filter is_finished (cond b (filter stays jobs) jobs)) ≤ MOST_FINISHED
  cut_step true is few = omega (arith, one_goes (ltb-true MOST_FINISHED (length (filter is_finished jobs)) is) (has_least skipped finish_of jobs), few)
  cut_step false is few = ltb-false MOST_FINISHED (length (filter is_finished jobs)) is

  pub few_cut : length (filter is_finished jobs) ≤ MOST_FINISHED + 1 → length (filter is_finished (cut_finished jobs)) ≤ MOST_FINISHED
  few_cut few = cut_step (ltb MOST_FINISHED (length (filter is_finished jobs))) refl few

  -- what holds of the jobs and of some of them holds of those that are kept
  pub cut_each : (P : List JobRow → Type 0) → P (filter stays jobs) → P jobs → P (cut_finished jobs)
  cut_each P some all = cond_each P (ltb MOST_FINISHED (length (filter is_finished jobs))) (filter stays jobs) jobs some all

  -- all that are pending are kept
  pub pending_kept : filter is_pending_job (cut_finished jobs) ≡ filter is_pending_job jobs
  pending_kept = cut_each (λ (js : List JobRow). filter is_pending_job js ≡ filter is_pending_job jobs) (filter_within is_pending_job stays (λ j pending. uncut j pending) jobs) refl
    where
      uncut : (j : JobRow) → is_pending_job j ≡ true → stays j ≡ true
      uncut j pending = ap (λ (b : Bool). not (not b && list_all (λ (k : JobRow). is_pending k.state || leb j.finish k.finish) jobs)) pending

  pub finishes_kept : IsDistinct nat_eq (map finish_of (filter is_finished jobs)) → IsDistinct nat_eq (map finish_of (filter is_finished (cut_finished jobs)))
  finishes_kept differ =
      cut_each (λ (js : List JobRow). IsDistinct nat_eq (map finish_of (filter is_finished js)))
      (subst (λ (js : List JobRow). IsDistinct nat_eq (map finish_of js)) (sym (filter_swap is_finished stays jobs)) (differ-filter finish_of nat_eq stays (filter is_finished jobs) differ)) differ
