-- The finished jobs in the order of their finish, as one more finishes.
use Rattle.std.proofs.Common.{◌≡◌, ℕ, suc, ◌+◌, ◌-◌, ◌≤◌, ◌<◌, ◌&&◌, ◌||◌, Bool, true, false, not, cond, eqb, ltb, List, [], ◌∷◌, ◌++◌, map, filter, length, drop, Option, Some, None, refl, sym, ap, subst, ◌∙◌, arith}
use Rattle.std.specs.Prelude.{get_or, nat_eq, nat_lt}
use Rattle.std.specs.List.{IsDistinct, list_all, list_any, position_or_len, slice_get}
use Rattle.std.proofs.lemmas.Bool.{false≢true, eqb-true, ltb-false, ltb-true, le-ltb, lt-ltb}
use Rattle.std.proofs.lemmas.List.{length-map, map-append}
use Rattle.std.proofs.lemmas.List.Folds.{find_at}
use Rattle.farm_types.specs.declared.limits.TheConstants.{MOST_FINISHED}
use Rattle.farm_types.specs.declared.rows.JobRow.{JobRow}
use Rattle.farm_types.specs.declared.slot_row.SlotRow.{SlotRow}
use Rattle.farm_types.specs.Booking.{is_pending}
use Rattle.farm_types.specs.Finish.{cut_finished, finished_row, is_finished}
use Rattle.farm_types.specs.Kept.{finish_of, has_its_finish, is_of_pending}
use Rattle.farm_types.specs.Rising.{IsRising, job_key}
use Rattle.farm_types.proofs.Lists.{and_both, list_all-at, list_all-from_at}
use Rattle.job_index.specs.declared.ready_jobs.TheConstants.{JOB_NUMBERS}
use Rattle.job_book.specs.Book.{counts_of, without_job}
use Rattle.job_entries.specs.Entries.{finished_by}
use Rattle.job_book.specs.Finished.{KeepsFinished, finish_key, finished_of, has_finish, leaver}
use Rattle.job_index.specs.Keys.{job_of, put_key, sorted}
use Rattle.job_book.proofs.EndingLemmas.CutJobs.{few_stay, goes, later_left}
use Rattle.job_book.proofs.EndingLemmas.FinishedRows.{IsThere, count_done, ended, finished_finished, finishes_differ, is_there, rows_are, rows_rise}
use Rattle.job_book.proofs.EndingLemmas.LeftJobs.{not_true}
use Rattle.job_book.proofs.ReadyLists.{at_bounds}
use Rattle.job_index.proofs.PutKeys.{length-sorted, none-put, number_of_key}

-- a key above all goes to the end
pub put_last : (key : ℕ) (ks : List ℕ) → list_any (ltb key) ks ≡ false → put_key key ks ≡ ks ++ key ∷ []
put_last key [] none = refl
put_last key (k ∷ ks) none = by_test (ltb key k) refl (put_last key ks) where
  by_test : (b : Bool) → ltb key k ≡ b → (list_any (ltb key) ks ≡ false → put_key key ks ≡ ks ++ key ∷ []) → put_key key (k ∷ ks) ≡ k ∷ (ks ++ key ∷ [])
  by_test true is later = absurd (false≢true (sym none ∙ ap (λ (b : Bool). b || list_any (ltb key) ks) is))
  by_test false is later =
      let rest : list_any (ltb key) ks ≡ false = sym (ap (λ (b : Bool). b || list_any (ltb key) ks) is) ∙ none in
      ap (λ (b : Bool). cond b (key ∷ (k ∷ ks)) (k ∷ put_key key ks)) is ∙ ap (λ (ns : List ℕ). k ∷ ns) (later rest)

-- no finished job has a key above one that is above each
none_above : (key : ℕ) (js : List JobRow) → ((k : ℕ) (j : JobRow) → slice_get js k ≡ Some j → is_finished j ≡ true → finish_key j ≤ key) → list_any (ltb key) (sorted (map finish_key (filter is_finished js))) ≡ false
none_above key [] each = refl
none_above key (j ∷ js) each = by_test (is_finished j) refl (none_above key js (λ k l at. each (suc k) l at)) where
  by_test : (b : Bool) → is_finished j ≡ b → list_any (ltb key) (sorted (map finish_key (filter is_finished js))) ≡ false
      → list_any (ltb key) (sorted (map finish_key (cond b (j ∷ filter is_finished js) (filter is_finished js)))) ≡ false
  by_test true is later = none-put (ltb key) (finish_key j) (sorted (map finish_key (filter is_finished js))) (le-ltb key (finish_key j) (each 0 j refl is)) later
  by_test false is later = later

abbrev keys_of : List JobRow → List ℕ
keys_of js = sorted (map finish_key (filter is_finished js))

-- as many numbers as finished jobs
pub as_many : (js : List JobRow) → length (finished_of js) ≡ length (filter is_finished js)
as_many js = length-map (keys_of js) job_of ∙ length-sorted (map finish_key (filter is_finished js)) ∙ length-map (filter is_finished js) finish_key

-- ---- one job more

module _ (job finish : ℕ) (slots : List SlotRow) (jobs : List JobRow) (high : ℕ) (most : high ≤ JOB_NUMBERS) (rise : IsRising job_key 0 jobs high) (pending : is_of_pending jobs job ≡ true)
    (less : finish < JOB_NUMBERS) (within : list_all (has_its_finish finish) jobs ≡ true) (few : length (filter is_finished jobs) ≤ MOST_FINISHED) (differ : IsDistinct nat_eq (map finish_of (filter is_finished jobs))) where
  abbrev there : IsThere jobs job
  there = is_there jobs job pending

  abbrev row : JobRow → JobRow
  row = finished_by job finish (counts_of job slots)

  abbrev pub news : List JobRow
  news = map (λ (j : JobRow). cond (eqb j.job job) (finished_row slots finish j) j) jobs

  news_are : map row jobs ≡ news
  news_are = rows_are job finish (counts_of job slots) slots refl jobs

  abbrev last : JobRow
  last = ended job finish (counts_of job slots) jobs high most rise there

  -- a finished one has a number, below the next
  known : (k : ℕ) (j : JobRow) → slice_get jobs k ≡ Some j → is_finished j ≡ true → j.finish < finish
  known k j at done =
      let has : cond (is_pending j.state) (eqb j.finish 0) (nat_lt 0 j.finish && nat_lt j.finish finish) ≡ true = list_all-at (has_its_finish finish) jobs k j within at in
      let ended : (nat_lt 0 j.finish && nat_lt j.finish finish) ≡ true = subst (λ (b : Bool). cond b (eqb j.finish 0) (nat_lt 0 j.finish && nat_lt j.finish finish) ≡ true) (not_true (is_pending j.state) done) has in
      ltb-true j.finish finish (and_both (nat_lt 0 j.finish) (nat_lt j.finish finish) ended).1

  all_known : list_all has_finish jobs ≡ true
  all_known = list_all-from_at has_finish jobs (λ k j at. lt-ltb j.finish JOB_NUMBERS (below j (is_pending j.state) refl (list_all-at (has_its_finish finish) jobs k j within at) (known k j at)))
    where
      below : (j : JobRow) (b : Bool) → is_pending j.state ≡ b → has_its_finish finish j ≡ true → (is_finished j ≡ true → j.finish < finish) → j.finish < JOB_NUMBERS
      below j true is has above =
          let none : eqb j.finish 0 ≡ true = subst (λ (b : Bool). cond b (eqb j.finish 0) (nat_lt 0 j.finish && nat_lt j.finish finish) ≡ true) is has in
          omega (arith, eqb-true j.finish 0 none)
      below j false is has above = omega (arith, above (ap not is), less)

  keeps : KeepsFinished jobs (keys_of jobs)
  keeps = record { keys_are = refl; within = all_known }

  -- the book's keys then
  news_keep : KeepsFinished news (put_key (finish_key last) (keys_of jobs))
  news_keep = subst (λ (js : List JobRow). KeepsFinished js (put_key (finish_key last) (keys_of jobs))) news_are (finished_finished job finish (counts_of job slots) jobs high most rise there (keys_of jobs) less keeps)

  -- one more than before at most
  news_few : length (filter is_finished news) ≤ MOST_FINISHED + 1
  news_few = subst (λ (js : List JobRow). length (filter is_finished js) ≤ MOST_FINISHED + 1) news_are (omega (arith, few, count_done job finish (counts_of job slots) 0 jobs high rise))

  news_rise : IsRising job_key 0 news high
  news_rise = subst (λ (js : List JobRow). IsRising job_key 0 js high) news_are (rows_rise job finish (counts_of job slots) 0 jobs high rise)

  news_differ : IsDistinct nat_eq (map finish_of (filter is_finished news))
  news_differ = subst (λ (js : List JobRow). IsDistinct nat_eq (map finish_of (filter is_finished js))) news_are (finishes_differ job finish (counts_of job slots) 0 jobs high rise within differ)

  its_below : there.row.job < JOB_NUMBERS
  its_below = omega (arith, most, (at_bounds 0 jobs high (position_or_len (λ (j : JobRow). eqb j.job job) jobs) there.row rise (sym (find_at (λ (j : JobRow). eqb j.job job) jobs) ∙ there.found)).1)

  above : (k : ℕ) (j : JobRow) → slice_get jobs k ≡ Some j → is_finished j ≡ true → finish_key j ≤ finish_key last
  above k j at done = omega (arith, known k j at done, most, (at_bounds 0 jobs high k j rise at).1)

  keys_then : put_key (finish_key last) (keys_of jobs) ≡ keys_of jobs ++ finish_key last ∷ []
  keys_then = put_last (finish_key last) (keys_of jobs) (none_above (finish_key last) jobs above)

  -- the finished ones, and then this one
  abbrev order : List ℕ
  order = finished_of jobs ++ job ∷ []

  order_then : finished_of news ≡ order
  order_then =
      ap (map job_of) (sym news_keep.keys_are ∙ keys_then)
      ∙ (map-append job_of (keys_of jobs) (finish_key last ∷ []) ∙ ap (λ (n : ℕ). finished_of jobs ++ n ∷ []) (number_of_key finish there.row.job its_below ∙ there.number))

  kept_then : KeepsFinished news (keys_of news)
  kept_then = subst (KeepsFinished news) news_keep.keys_are news_keep

  first_of : (ns : List ℕ) → MOST_FINISHED < length ns → (n : ℕ) × (slice_get ns 0 ≡ Some n) × (n ≡ get_or ns 0 n)
  first_of [] some = absurd (omega (arith, some))
  first_of (n ∷ ns) some = (n, refl, refl)

  -- the one that leaves, and the ones that are left
  cut_by : (b : Bool) → nat_lt MOST_FINISHED (length (finished_of news)) ≡ b
      → (cut_finished news ≡ without_job (leaver (finished_of news)) news) × (finished_of (cut_finished news) ≡ drop (length (finished_of news) - MOST_FINISHED) (finished_of news))
  cut_by false is =
      let few_now : length (finished_of news) ≤ MOST_FINISHED = ltb-false MOST_FINISHED (length (finished_of news)) is in
      let stay = sym (few_stay news high most news_rise (keys_of news) (finished_of news) refl refl few_now) in
      let none : length (finished_of news) - MOST_FINISHED ≡ 0 = omega (arith, few_now) in (
        stay ∙ sym (ap (λ (c : Bool). without_job (cond c (slice_get (finished_of news) 0) None) news) is),
        ap finished_of stay ∙ sym (ap (λ (n : ℕ). drop n (finished_of news)) none),
      )
  cut_by true is =
      let more : MOST_FINISHED < length (finished_of news) = ltb-true MOST_FINISHED (length (finished_of news)) is in
      let first = first_of (finished_of news) more in
      let gone = goes news high most news_rise (keys_of news) (finished_of news) refl refl (omega (arith, more)) first.0 first.2 more news_differ in
      let few_then : length (finished_of news) ≤ MOST_FINISHED + 1 = omega (arith, length-map (keys_of news) job_of, length-sorted (map finish_key (filter is_finished news)), length-map (filter is_finished news) finish_key, news_few) in
      let one : length (finished_of news) - MOST_FINISHED ≡ 1 = omega (arith, few_then, more) in (
        sym gone ∙ sym (ap (λ (c : Bool). without_job (cond c (slice_get (finished_of news) 0) None) news) is ∙ ap (λ (o : Option ℕ). without_job o news) first.1),
        ap finished_of (sym gone) ∙ (later_left news high most news_rise (keys_of news) (finished_of news) refl refl (omega (arith, more)) first.0 first.2 kept_then ∙ sym (ap (λ (n : ℕ). drop n (finished_of news)) one)),
      )

  pub cut_is : (cut_finished news ≡ without_job (leaver order) news) × (finished_of (cut_finished news) ≡ drop (length order - MOST_FINISHED) order)
  cut_is = subst (λ (ns : List ℕ). (cut_finished news ≡ without_job (leaver ns) news) × (finished_of (cut_finished news) ≡ drop (length ns - MOST_FINISHED) ns)) order_then (cut_by (nat_lt MOST_FINISHED (length (finished_of news))) refl)
