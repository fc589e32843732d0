-- One job finishes: what the book keeps of the rows, their names, the finished ones and the ready ones.
use Rattle.std.proofs.Common.{◌≡◌, ℕ, ◌+◌, ◌≤◌, ◌<◌, ◌&&◌, not, Bool, true, false, cond, eqb, ltb, List, [], ◌∷◌, map, filter, length, Some, option_map, refl, sym, ap, ◌∙◌, arith}
use Rattle.std.specs.Prelude.{nat_eq}
use Rattle.std.specs.List.{AllByRecursion, IsDistinct, find, list_all, list_any, position_or_len, slice_get}
use Rattle.std.proofs.lemmas.Bool.{and_from, eqb-true, eqb-false, lt-ltb, ltb-true, ne_eqb, not_from_false}
use Rattle.std.proofs.lemmas.List.{length-map}
use Rattle.std.proofs.lemmas.List.Folds.{find_at}
use Rattle.std.proofs.lemmas.Map.Keys.{IsDistinct-cons, IsDistinct-head, IsDistinct-tail}
use Rattle.std.proofs.lemmas.Option.{slice_get-map}
use Rattle.farm_types.specs.declared.limits.TheConstants.{MOST_FINISHED}
use Rattle.farm_types.specs.declared.rows.JobRow.{JobRow}
use Rattle.farm_types.specs.declared.slot_row.SlotRow.{SlotRow}
use Rattle.farm_types.specs.declared.states.FrameState.TheVariants.{Waiting}
use Rattle.farm_types.specs.declared.states.JobState.TheVariants.{Finished}
use Rattle.farm_types.specs.Booking.{is_pending}
use Rattle.farm_types.specs.Farm.{changed_at}
use Rattle.farm_types.specs.Finish.{count_where, finished_row, freed_row, has_succeeded, is_finished, was_eaten}
use Rattle.farm_types.specs.Kept.{finish_of, has_its_finish, is_of_pending, is_pending_job}
use Rattle.farm_types.specs.Rising.{IsRising, job_key}
use Rattle.farm_types.proofs.ChangedLists.{map-map_kept}
use Rattle.farm_types.proofs.Lists.{and_both, for_some_true, found_is}
use Rattle.job_entries.specs.declared.counts.Counts.{Counts}
use Rattle.job_index.specs.declared.limits.TheConstants.{MOST_JOBS}
use Rattle.job_index.specs.declared.ready_jobs.TheConstants.{JOB_NUMBERS}
use Rattle.job_book.specs.Book.{count_in, counts_of}
use Rattle.job_entries.specs.Counting.{new_counts}
use Rattle.job_entries.specs.Entries.{finished_by, with_ends}
use Rattle.job_book.specs.Finished.{KeepsFinished, can_put, finish_key, has_finish}
use Rattle.job_book.specs.Inside.{counts_for}
use Rattle.job_book.specs.Names.{KeepsNames, is_named}
use Rattle.job_book.specs.Ready.{KeepsReady, has_priority, is_ready_in, ready_key, waits}
use Rattle.job_index.specs.Keys.{put_key, sorted}
use Rattle.job_book.proofs.EndingLemmas.FreedJob.{count_other, counts_here, counts_other, eaten_is, succeeded_is}
use Rattle.job_book.proofs.JobPlaces.{recounted}
use Rattle.job_book.proofs.EndingLemmas.LeftJobs.{absent, keys_of_finished, put_back, remains, same_left}
use Rattle.job_book.proofs.ReadyLists.{at_bounds, one_of}
use Rattle.job_index.proofs.PutKeys.{length-sorted}

-- the pending job of that number
pub record IsThere (jobs : List JobRow) (job : ℕ) : Type 0 where
  pub row : JobRow
  pub found : find (λ (j : JobRow). eqb j.job job) jobs ≡ Some row
  pub number : row.job ≡ job
  pub pending : is_pending row.state ≡ true

pub is_there : (jobs : List JobRow) (job : ℕ) → is_of_pending jobs job ≡ true → IsThere jobs job
is_there jobs job h =
    let its = for_some_true (find (λ (j : JobRow). eqb j.job job) jobs) is_pending_job h in
    record { row = its.0; found = its.1; number = eqb-true its.0.job job (found_is (λ (j : JobRow). eqb j.job job) jobs its.0 its.1); pending = its.2 }

module _ (job finish : ℕ) (c : Counts) where
  abbrev row : JobRow → JobRow
  row = finished_by job finish c

  -- ---- what a row keeps

  kept_by : {Y : Type 0} (read : JobRow → Y) → ((j : JobRow) → read (with_ends finish c j) ≡ read j) → (b : Bool) (j : JobRow) → read (cond b (with_ends finish c j) j) ≡ read j
  kept_by read same true j = same j
  kept_by read same false j = refl

  pub row_keeps : {Y : Type 0} (read : JobRow → Y) → ((j : JobRow) → read (with_ends finish c j) ≡ read j) → (j : JobRow) → read (row j) ≡ read j
  row_keeps read same j = kept_by read same (eqb j.job job) j

  pub all_rows : (old new : JobRow → Bool) → ((j : JobRow) → old j ≡ true → new (row j) ≡ true) → (js : List JobRow) → list_all old js ≡ true → list_all new (map row js) ≡ true
  all_rows old new each [] all = refl
  all_rows old new each (j ∷ js) all =
      let both = and_both (old j) (list_all old js) all in
      and_from (new (row j)) (list_all new (map row js)) (each j both.0) (all_rows old new each js both.1)

  pub rows_rise : (low : ℕ) (js : List JobRow) (high : ℕ) → IsRising job_key low js high → IsRising job_key low (map row js) high
  rows_rise low [] high rise = rise
  rows_rise low (j ∷ js) high rise = by (eqb j.job job) refl (rows_rise (j.job + 1) js high rise.1)
    where
      by : (b : Bool) → eqb j.job job ≡ b → IsRising job_key (j.job + 1) (map row js) high → IsRising job_key low (map row (j ∷ js)) high
      by true is later = rw is (rise.0, later)
      by false is later = rw is (rise.0, later)

  -- rows above the number stay
  above_stay : (low : ℕ) (js : List JobRow) (high : ℕ) → job < low → IsRising job_key low js high → map row js ≡ js
  above_stay low [] high less rise = refl
  above_stay low (j ∷ js) high less rise =
      let apart : eqb j.job job ≡ false = ne_eqb j.job job (λ e. absurd (omega (arith, rise.0, e, less))) in
      let rest = above_stay (j.job + 1) js high (omega (arith, rise.0, less)) rise.1 in
      rw (apart, rest) refl

  others_same : (js : List JobRow) → filter (remains job) (map row js) ≡ filter (remains job) js
  others_same [] = refl
  others_same (j ∷ js) = by (eqb j.job job) refl (others_same js)
    where
      by : (b : Bool) → eqb j.job job ≡ b → filter (remains job) (map row js) ≡ filter (remains job) js → filter (remains job) (map row (j ∷ js)) ≡ filter (remains job) (j ∷ js)
      by true is later = rw (is, is) later
      by false is later = rw (is, is) (ap (λ (ks : List JobRow). j ∷ ks) later)

  -- where a test says of each row as another one said before, the keys stay
  module _ (old new : JobRow → Bool) (key : JobRow → ℕ) (same_test : (j : JobRow) → new (row j) ≡ old j) (same_key : (j : JobRow) → key (row j) ≡ key j) where
    keys_kept : (js : List JobRow) → map key (filter new (map row js)) ≡ map key (filter old js)
    keys_kept [] = refl
    keys_kept (j ∷ js) = by (old j) refl (same_test j) (keys_kept js)
      where
        by : (b : Bool) → old j ≡ b → new (row j) ≡ old j → map key (filter new (map row js)) ≡ map key (filter old js) → map key (filter new (map row (j ∷ js))) ≡ map key (filter old (j ∷ js))
        by true is same later = rw (same ∙ is, is) (λ i. same_key j i ∷ later i)
        by false is same later = rw (same ∙ is, is) later

  -- ---- names

  pub finished_names : (names : List (List ℕ × ℕ)) (jobs : List JobRow) → KeepsNames names jobs → KeepsNames names (map row jobs)
  finished_names names jobs keeps =
      record {
        named = λ name. keys_kept (is_named name) (is_named name) job_key (row_keeps (is_named name) (λ j. refl)) (row_keeps job_key (λ j. refl)) jobs ∙ keeps.named name;
        as_many = omega (arith, keeps.as_many, length-map jobs row);
      }

  -- ---- counts

  pub finished_counts : (jobs : List JobRow) (high : ℕ) → IsRising job_key 0 jobs high → (slots : List SlotRow)
      → changed_at (counts_for jobs slots) (position_or_len (λ (j : JobRow). eqb j.job job) jobs) (λ _. new_counts 0) ≡ counts_for (map row jobs) (map (freed_row job) slots)
  finished_counts jobs high rise slots =
      sym (map-map_kept (λ (j : JobRow). counts_of j.job (map (freed_row job) slots)) row (row_keeps (λ (j : JobRow). counts_of j.job (map (freed_row job) slots)) (λ j. refl)) jobs
      ∙ recounted (λ k. counts_of k slots) (λ k. counts_of k (map (freed_row job) slots)) job (λ _. new_counts 0) (counts_other job slots) (counts_here job slots) 0 jobs high rise)

  -- the rows are those of the definition, where the counts are those of the slots
  pub rows_are : (slots : List SlotRow) → c ≡ counts_of job slots → (jobs : List JobRow) → map row jobs ≡ map (λ (j : JobRow). cond (eqb j.job job) (finished_row slots finish j) j) jobs
  rows_are slots are jobs = ap (λ (change : JobRow → JobRow). map change jobs) (λ i j. each j i)
    where
      ends : (j : JobRow) → j.job ≡ job → with_ends finish c j ≡ finished_row slots finish j
      ends j same =
          let eaten : c.eaten ≡ count_where j.job was_eaten slots = ap (λ (k : Counts). k.eaten) are ∙ eaten_is job slots ∙ ap (λ (n : ℕ). count_where n was_eaten slots) (sym same) in
          let succeeded : c.succeeded ≡ count_where j.job has_succeeded slots = ap (λ (k : Counts). k.succeeded) are ∙ succeeded_is job slots ∙ ap (λ (n : ℕ). count_where n has_succeeded slots) (sym same) in
          λ i. record j { state = Finished; finish = finish; eaten = eaten i; succeeded = succeeded i }

      by : (b : Bool) (j : JobRow) → eqb j.job job ≡ b → row j ≡ cond (eqb j.job job) (finished_row slots finish j) j
      by true j is = rw is (ends j (eqb-true j.job job is))
      by false j is = rw is refl

      each : (j : JobRow) → row j ≡ cond (eqb j.job job) (finished_row slots finish j) j
      each j = by (eqb j.job job) j refl

  -- ---- ready jobs

  pub finished_ready : (jobs : List JobRow) (slots : List SlotRow) (ready : List (List ℕ)) → count_in job Waiting slots ≡ 0 → KeepsReady jobs slots ready → KeepsReady (map row jobs) (map (freed_row job) slots) ready
  finished_ready jobs slots ready none keeps =
      record {
        priorities = all_rows has_priority has_priority (λ j h. row_keeps has_priority (λ k. refl) j ∙ h) jobs keeps.priorities;
        as_many = keeps.as_many;
        keys = λ show ks there. keeps.keys show ks there ∙ sym (ap sorted (keys_kept (is_ready_in slots show) (is_ready_in (map (freed_row job) slots) show) ready_key (as_ready show) (row_keeps ready_key (λ j. refl)) jobs));
      }
    where
      neither : (a p : Bool) → (a && false) ≡ (a && (p && false))
      neither true true = refl
      neither true false = refl
      neither false p = refl

      by : (show : ℕ) (b : Bool) (j : JobRow) → eqb j.job job ≡ b → is_ready_in (map (freed_row job) slots) show (row j) ≡ is_ready_in slots show j
      by show true j is =
          let idle : waits slots j.job ≡ false = ap (λ (n : ℕ). ltb 0 (count_in n Waiting slots)) (eqb-true j.job job is) ∙ ap (ltb 0) none in
          rw (is, idle) (neither (eqb j.show show) (is_pending j.state))
      by show false j is =
          let apart : eqb job j.job ≡ false = ne_eqb job j.job (λ e. eqb-false j.job job is (sym e)) in
          let same : waits (map (freed_row job) slots) j.job ≡ waits slots j.job = ap (ltb 0) (count_other job j.job Waiting apart slots) in
          rw is (ap (λ (w : Bool). eqb j.show show && (is_pending j.state && w)) same)

      as_ready : (show : ℕ) (j : JobRow) → is_ready_in (map (freed_row job) slots) show (row j) ≡ is_ready_in slots show j
      as_ready show j = by show (eqb j.job job) j refl

  -- ---- finished jobs

  pub count_done : (low : ℕ) (js : List JobRow) (high : ℕ) → IsRising job_key low js high → length (filter is_finished (map row js)) ≤ length (filter is_finished js) + 1
  count_done low [] high rise = omega arith
  count_done low (j ∷ js) high rise = by (eqb j.job job) (is_finished j) refl refl (count_done (j.job + 1) js high rise.1)
    where
      by : (a b : Bool) → eqb j.job job ≡ a → is_finished j ≡ b → length (filter is_finished (map row js)) ≤ length (filter is_finished js) + 1 → length (filter is_finished (map row (j ∷ js))) ≤ length (filter is_finished (j ∷ js)) + 1
      by true true is done later = let rest = above_stay (j.job + 1) js high (omega (arith, eqb-true j.job job is)) rise.1 in rw (is, rest, done) (omega arith)
      by true false is done later = let rest = above_stay (j.job + 1) js high (omega (arith, eqb-true j.job job is)) rise.1 in rw (is, rest, done) (omega arith)
      by false true is done later = rw (is, done) (omega (arith, later))
      by false false is done later = rw (is, done) later

  module _ (jobs : List JobRow) (high : ℕ) (most : high ≤ JOB_NUMBERS) (rise : IsRising job_key 0 jobs high) (there : IsThere jobs job) where
    abbrev test : JobRow → Bool
    test j = eqb j.job job

    abbrev place : ℕ
    place = position_or_len test jobs

    -- the job's row then
    abbrev pub ended : JobRow
    ended = with_ends finish c there.row

    at : slice_get jobs place ≡ Some there.row
    at = sym (find_at test jobs) ∙ there.found

    its : row there.row ≡ ended
    its = let is : eqb there.row.job job ≡ true = found_is test jobs there.row there.found in rw is refl

    at_then : slice_get (map row jobs) place ≡ Some ended
    at_then = slice_get-map row jobs place ∙ ap (option_map row) at ∙ ap Some its

    find_row : (js : List JobRow) → find test (map row js) ≡ option_map row (find test js)
    find_row [] = refl
    find_row (j ∷ js) = by (eqb j.job job) refl (find_row js)
      where
        by : (b : Bool) → eqb j.job job ≡ b → find test (map row js) ≡ option_map row (find test js) → find test (map row (j ∷ js)) ≡ option_map row (find test (j ∷ js))
        by true is later = rw (is, is) refl
        by false is later = rw (is, is) later

    pub found_then : find test (map row jobs) ≡ Some ended
    found_then = find_row jobs ∙ ap (option_map row) there.found ∙ ap Some its

    -- the finished ones among the others are those from before
    same_finished : (n : ℕ) → n ≡ job → keys_of_finished (filter (remains n) (map row jobs)) ≡ keys_of_finished jobs
    same_finished n same =
        ap (λ (k : ℕ). keys_of_finished (filter (remains k) (map row jobs))) same ∙ ap keys_of_finished (others_same jobs)
        ∙ ap (λ (js : List JobRow). sorted (map finish_key js)) (same_left job is_finished jobs off)
      where
        off : (k : ℕ) (l : JobRow) → slice_get jobs k ≡ Some l → l.job ≡ job → is_finished l ≡ false
        off k l here same = ap is_finished (one_of 0 jobs high place k there.row l rise at here (same ∙ sym there.number)) ∙ ap not there.pending

    put_then : keys_of_finished (map row jobs) ≡ put_key (finish_key ended) (keys_of_finished jobs)
    put_then = put_back ended refl 0 (map row jobs) high place most (rows_rise 0 jobs high rise) at_then ∙ ap (put_key (finish_key ended)) (same_finished there.row.job there.number)

    within : finish < JOB_NUMBERS → (j : JobRow) → has_finish j ≡ true → has_finish (row j) ≡ true
    within less j h = by (eqb j.job job) refl
      where
        by : (b : Bool) → eqb j.job job ≡ b → has_finish (row j) ≡ true
        by true is = rw is (lt-ltb finish JOB_NUMBERS less)
        by false is = rw is h

    pub finished_finished : (keys : List ℕ) → finish < JOB_NUMBERS → KeepsFinished jobs keys → KeepsFinished (map row jobs) (put_key (finish_key ended) keys)
    finished_finished keys less keeps =
        record {
          keys_are = ap (put_key (finish_key ended)) keeps.keys_are ∙ sym put_then;
          within = all_rows has_finish has_finish (within less) jobs keeps.within;
        }

    -- its key isn't there, and one more fits
    pub can_put_then : (keys : List ℕ) → finish < JOB_NUMBERS → length (filter is_finished jobs) ≤ MOST_FINISHED → KeepsFinished jobs keys → (has_finish ended && can_put (finish_key ended) keys) ≡ true
    can_put_then keys less few keeps =
        let bounds = at_bounds 0 jobs high place there.row rise at in
        let new : list_any (λ (k : ℕ). eqb k (finish_key ended)) keys ≡ false =
        ap (list_any (λ (k : ℕ). eqb k (finish_key ended))) (keeps.keys_are ∙ sym (same_finished there.row.job there.number))
        ∙ absent ended refl 0 (map row jobs) high most bounds.1 (rows_rise 0 jobs high rise) in
        let long = ap (λ (ks : List ℕ). length ks) keeps.keys_are in
        let room : length keys < MOST_JOBS = omega (arith, long, length-sorted (map finish_key (filter is_finished jobs)), length-map (filter is_finished jobs) finish_key, few) in
        and_from (has_finish ended) (can_put (finish_key ended) keys) (lt-ltb finish JOB_NUMBERS less)
        (and_from (not (list_any (λ (k : ℕ). eqb k (finish_key ended)) keys)) (ltb (length keys) MOST_JOBS) (not_from_false _ new) (lt-ltb (length keys) MOST_JOBS room))

  -- ---- the finished ones' finishes differ

  abbrev finishes : List JobRow → List ℕ
  finishes js = map finish_of (filter is_finished js)

  -- those from before are below the new one
  new_apart : (js : List JobRow) → list_all (has_its_finish finish) js ≡ true → AllByRecursion (λ n. nat_eq finish n ≡ false) (finishes js)
  new_apart [] all = tt
  new_apart (j ∷ js) all =
      let both = and_both (has_its_finish finish j) (list_all (has_its_finish finish) js) all in
      by (is_pending j.state) refl both.0 (new_apart js both.1)
    where
      by : (p : Bool) → is_pending j.state ≡ p → has_its_finish finish j ≡ true → AllByRecursion (λ n. nat_eq finish n ≡ false) (finishes js) → AllByRecursion (λ n. nat_eq finish n ≡ false) (finishes (j ∷ js))
      by true is has later = rw is later
      by false is has later =
          let less : ltb j.finish finish ≡ true = (and_both (ltb 0 j.finish) (ltb j.finish finish) (rw is at has)).1 in
          rw is (ne_eqb finish j.finish (λ e. absurd (omega (arith, e, ltb-true j.finish finish less))), later)

  -- a finish below the new one differs from all then
  apart_then : (n : ℕ) (js : List JobRow) → n < finish → AllByRecursion (λ m. nat_eq n m ≡ false) (finishes js) → AllByRecursion (λ m. nat_eq n m ≡ false) (finishes (map row js))
  apart_then n [] less apart = tt
  apart_then n (j ∷ js) less apart = by (eqb j.job job) (is_pending j.state) refl refl apart (λ rest. apart_then n js less rest)
    where
      new : nat_eq n finish ≡ false
      new = ne_eqb n finish (λ e. absurd (omega (arith, e, less)))

      by : (a p : Bool) → eqb j.job job ≡ a → is_pending j.state ≡ p → AllByRecursion (λ m. nat_eq n m ≡ false) (finishes (j ∷ js))
          → (AllByRecursion (λ m. nat_eq n m ≡ false) (finishes js) → AllByRecursion (λ m. nat_eq n m ≡ false) (finishes (map row js))) → AllByRecursion (λ m. nat_eq n m ≡ false) (finishes (map row (j ∷ js)))
      by true true is p apart later = rw is (new, later (rw p at apart))
      by true false is p apart later = let both : (nat_eq n j.finish ≡ false) × AllByRecursion (λ m. nat_eq n m ≡ false) (finishes js) = rw p at apart in rw is (new, later both.1)
      by false true is p apart later = rw (is, p) (later (rw p at apart))
      by false false is p apart later = let both : (nat_eq n j.finish ≡ false) × AllByRecursion (λ m. nat_eq n m ≡ false) (finishes js) = rw p at apart in rw (is, p) (both.0, later both.1)

  pub finishes_differ : (low : ℕ) (js : List JobRow) (high : ℕ) → IsRising job_key low js high → list_all (has_its_finish finish) js ≡ true → IsDistinct nat_eq (finishes js) → IsDistinct nat_eq (finishes (map row js))
  finishes_differ low [] high rise all differ = differ
  finishes_differ low (j ∷ js) high rise all differ =
      let both = and_both (has_its_finish finish j) (list_all (has_its_finish finish) js) all in
      by (eqb j.job job) (is_pending j.state) refl refl both.0 both.1 differ (λ d. finishes_differ (j.job + 1) js high rise.1 both.1 d)
    where
      by : (a p : Bool) → eqb j.job job ≡ a → is_pending j.state ≡ p → has_its_finish finish j ≡ true → list_all (has_its_finish finish) js ≡ true → IsDistinct nat_eq (finishes (j ∷ js))
          → (IsDistinct nat_eq (finishes js) → IsDistinct nat_eq (finishes (map row js))) → IsDistinct nat_eq (finishes (map row (j ∷ js)))
      by true true is p has all differ later =
          let rest = above_stay (j.job + 1) js high (omega (arith, eqb-true j.job job is)) rise.1 in
          rw (is, rest) (IsDistinct-cons nat_eq finish (finishes js) (new_apart js all) (rw p at differ))
      by true false is p has all differ later =
          let rest = above_stay (j.job + 1) js high (omega (arith, eqb-true j.job job is)) rise.1 in
          let its : IsDistinct nat_eq (j.finish ∷ finishes js) = rw p at differ in
          rw (is, rest) (IsDistinct-cons nat_eq finish (finishes js) (new_apart js all) (IsDistinct-tail nat_eq j.finish (finishes js) its))
      by false true is p has all differ later = rw (is, p) (later (rw p at differ))
      by false false is p has all differ later =
          let its : IsDistinct nat_eq (j.finish ∷ finishes js) = rw p at differ in
          let less : ltb j.finish finish ≡ true = (and_both (ltb 0 j.finish) (ltb j.finish finish) (rw p at has)).1 in
          rw (is, p) (IsDistinct-cons nat_eq j.finish (finishes (map row js)) (apart_then j.finish js (ltb-true j.finish finish less) (IsDistinct-head nat_eq j.finish (finishes js) its))
          (later (IsDistinct-tail nat_eq j.finish (finishes js) its)))
