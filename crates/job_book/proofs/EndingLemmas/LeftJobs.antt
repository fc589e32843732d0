-- A finished job leaves: what the book keeps of the others.
use Rattle.std.proofs.Common.{◌≡◌, ℕ, zero, suc, ◌+◌, ◌≤◌, ◌<◌, ◌&&◌, ◌||◌, Bool, true, false, cond, not, eqb, List, [], ◌∷◌, map, filter, length, Option, Some, None, is_some, refl, sym, ap, subst, ◌∙◌, arith}
use Rattle.std.specs.List.{find, list_all, list_any, slice_get, sum_by}
use Rattle.std.specs.Str.{bytes_eq}
use Rattle.std.proofs.lemmas.Bool.{false≢true, eqb-true, eqb-false, eq-eqb, ne_eqb, and_from}
use Rattle.std.proofs.lemmas.Slice.Eq.{bytes_eq-Decides}
use Rattle.std.proofs.lemmas.List.Sums.{sum_by-cons}
use Rattle.std.proofs.lemmas.Option.{none-some, same_Some}
use Rattle.farm_types.specs.declared.rows.JobRow.{JobRow}
use Rattle.farm_types.specs.declared.slot_row.SlotRow.{SlotRow}
use Rattle.farm_types.specs.Booking.{is_pending}
use Rattle.farm_types.specs.Finish.{is_finished}
use Rattle.farm_types.specs.declared.job.JobSpec.{JobSpec}
use Rattle.farm_types.specs.Farm.{for_some}
use Rattle.farm_types.specs.Jobs.{JobLists, is_finished_named, is_pending_named, job_refusal, layers_refusal, repeated_name, without_finished}
use Rattle.farm_types.specs.Kept.{is_of_pending, is_pending_job}
use Rattle.farm_types.specs.Rising.{IsRising, job_key}
use Rattle.farm_types.proofs.Lists.{and_both}
use Rattle.job_entries.specs.declared.counts.Counts.{Counts}
use Rattle.job_index.specs.declared.ready_jobs.TheConstants.{JOB_NUMBERS}
use Rattle.job_book.specs.Book.{counts_of}
use Rattle.job_entries.specs.Entries.{beside}
use Rattle.job_book.specs.Finished.{KeepsFinished, finish_key, has_finish, without_done}
use Rattle.job_book.specs.Inside.{IsBook, counts_for, frames_left, has_layers_if, has_slots}
use Rattle.job_book.specs.Names.{KeepsNames, as_list, is_named}
use Rattle.job_index.specs.Names.{number_of}
use Rattle.job_book.specs.Ready.{KeepsReady, has_priority, is_ready_in, ready_key}
use Rattle.job_index.specs.Keys.{drop_key, put_key, sorted}
use Rattle.job_book.proofs.PlacementLemmas.Placed.{accepted_new, rising_within}
use Rattle.job_book.proofs.ReadyLists.{at_bounds, keys_apart, one_of, same_filter}
use Rattle.job_index.proofs.PutKeys.{commute, drop_put, none-put}

module _ (job : ℕ) where
  abbrev pub remains : JobRow → Bool
  remains j = not (eqb j.job job)

  pub all_left : (test : JobRow → Bool) (js : List JobRow) → list_all test js ≡ true → list_all test (filter remains js) ≡ true
  all_left test [] all = refl
  all_left test (j ∷ js) all =
      let both = and_both (test j) (list_all test js) all in
      by (eqb j.job job) refl both.0 (all_left test js both.1)
    where
      by : (b : Bool) → eqb j.job job ≡ b → test j ≡ true → list_all test (filter remains js) ≡ true → list_all test (filter remains (j ∷ js)) ≡ true
      by true is here later = rw is later
      by false is here later = rw is (and_from (test j) (list_all test (filter remains js)) here later)

  lower : (low low' : ℕ) (js : List JobRow) (high : ℕ) → low' ≤ low → IsRising job_key low js high → IsRising job_key low' js high
  lower low low' [] high less rise = omega (arith, less, rise)
  lower low low' (j ∷ js) high less rise = (omega (arith, less, rise.0), rise.1)

  pub rising_left : (low : ℕ) (js : List JobRow) (high : ℕ) → IsRising job_key low js high → IsRising job_key low (filter remains js) high
  rising_left low [] high rise = rise
  rising_left low (j ∷ js) high rise = by (eqb j.job job) refl (rising_left (j.job + 1) js high rise.1)
    where
      by : (b : Bool) → eqb j.job job ≡ b → IsRising job_key (j.job + 1) (filter remains js) high → IsRising job_key low (filter remains (j ∷ js)) high
      by true is later = rw is (lower (j.job + 1) low (filter remains js) high (omega (arith, rise.0)) later)
      by false is later = rw is (rise.0, later)

  pub sum_left : (weight : JobRow → ℕ) (js : List JobRow) → sum_by weight (filter remains js) ≤ sum_by weight js
  sum_left weight [] = omega arith
  sum_left weight (j ∷ js) = by (eqb j.job job) refl (sum_left weight js)
    where
      by : (b : Bool) → eqb j.job job ≡ b → sum_by weight (filter remains js) ≤ sum_by weight js → sum_by weight (filter remains (j ∷ js)) ≤ sum_by weight (j ∷ js)
      by true is later = rw is (omega (arith, later, sum_by-cons weight j js))
      by false is later = rw is (omega (arith, later, sum_by-cons weight j js, sum_by-cons weight j (filter remains js)))

  -- jobs above the number stay
  above_left : (low : ℕ) (js : List JobRow) (high : ℕ) → job < low → IsRising job_key low js high → filter remains js ≡ js
  above_left low [] high less rise = refl
  above_left low (j ∷ js) high less rise =
      let apart : eqb j.job job ≡ false = ne_eqb j.job job (λ e. absurd (omega (arith, e, rise.0, less))) in
      let rest = above_left (j.job + 1) js high (omega (arith, rise.0, less)) rise.1 in
      rw (apart, rest) refl

  -- one job leaves at most
  pub count_left : (low : ℕ) (js : List JobRow) (high : ℕ) → IsRising job_key low js high → length js ≤ length (filter remains js) + 1
  count_left low [] high rise = omega arith
  count_left low (j ∷ js) high rise = by (eqb j.job job) refl (count_left (j.job + 1) js high rise.1)
    where
      by : (b : Bool) → eqb j.job job ≡ b → length js ≤ length (filter remains js) + 1 → length (j ∷ js) ≤ length (filter remains (j ∷ js)) + 1
      by true is later =
          let rest = above_left (j.job + 1) js high (omega (arith, eqb-true j.job job is)) rise.1 in
          rw (is, rest) (omega arith)
      by false is later = rw is (omega (arith, later))

  -- a test that fails of the job finds the others as before
  pub same_left : (test : JobRow → Bool) (js : List JobRow) → ((k : ℕ) (l : JobRow) → slice_get js k ≡ Some l → l.job ≡ job → test l ≡ false) → filter test (filter remains js) ≡ filter test js
  same_left test [] off = refl
  same_left test (j ∷ js) off = by (eqb j.job job) refl (same_left test js (λ k l at. off (suc k) l at))
    where
      by : (b : Bool) → eqb j.job job ≡ b → filter test (filter remains js) ≡ filter test js → filter test (filter remains (j ∷ js)) ≡ filter test (j ∷ js)
      by true is later = let fails = off 0 j refl (eqb-true j.job job is) in rw (is, fails) later
      by false is later = rw is (ap (λ (ks : List JobRow). cond (test j) (j ∷ ks) ks) later)

  -- the counts of the others
  pub counts_left : (js : List JobRow) (slots : List SlotRow) → beside remains js (counts_for js slots) ≡ counts_for (filter remains js) slots
  counts_left [] slots = refl
  counts_left (j ∷ js) slots = by (eqb j.job job) refl (counts_left js slots)
    where
      by : (b : Bool) → eqb j.job job ≡ b → beside remains js (counts_for js slots) ≡ counts_for (filter remains js) slots → beside remains (j ∷ js) (counts_for (j ∷ js) slots) ≡ counts_for (filter remains (j ∷ js)) slots
      by true is later = rw is later
      by false is later = rw is (ap (λ (cs : List Counts). counts_of j.job slots ∷ cs) later)

  pub book_left : (b : JobLists) → IsBook b → IsBook (record b { jobs = filter remains b.jobs })
  book_left b ok =
      record {
        slot_count = ok.slot_count;
        next_within = ok.next_within;
        jobs_rise = rising_left 0 b.jobs b.next_job ok.jobs_rise;
        layers_rise = ok.layers_rise;
        layers_owned = all_left (has_layers_if b.layers) b.jobs ok.layers_owned;
        frames_below = ok.frames_below;
        slots_had = all_left (has_slots b.slots) b.jobs ok.slots_had;
        jobs_fit = omega (arith, ok.jobs_fit, sum_left frames_left b.jobs);
      }

  -- numbers of the others
  numbers_left : (test : JobRow → Bool) (js : List JobRow) → map job_key (filter test (filter remains js)) ≡ filter (λ (n : ℕ). not (eqb n job)) (map job_key (filter test js))
  numbers_left test [] = refl
  numbers_left test (j ∷ js) = by (test j) (eqb j.job job) refl refl (numbers_left test js)
    where
      by : (a b : Bool) → test j ≡ a → eqb j.job job ≡ b → map job_key (filter test (filter remains js)) ≡ filter (λ (n : ℕ). not (eqb n job)) (map job_key (filter test js))
          → map job_key (filter test (filter remains (j ∷ js))) ≡ filter (λ (n : ℕ). not (eqb n job)) (map job_key (filter test (j ∷ js)))
      by true true t e later = rw (t, e) later
      by true false t e later = rw (t, e, t) (ap (λ (ns : List ℕ). j.job ∷ ns) later)
      by false true t e later = rw (t, e) later
      by false false t e later = rw (t, e, t) later

listed : (name : List ℕ) (js : List JobRow) (k : ℕ) (j : JobRow) (o : Option ℕ) → slice_get js k ≡ Some j → is_named name j ≡ true → map job_key (filter (is_named name) js) ≡ as_list o → o ≡ Some j.job
listed name [] k j o at named is = absurd (none-some j at)
listed name (r ∷ rs) zero j o at named is =
    let same : r ≡ j = same_Some r j at in
    let here : is_named name r ≡ true = ap (is_named name) same ∙ named in
    by o (rw here at is) ∙ ap (λ (m : JobRow). Some m.job) same
  where
    by : (o : Option ℕ) → r.job ∷ map job_key (filter (is_named name) rs) ≡ as_list o → o ≡ Some r.job
    by None e = absurd (cc)
    by (Some n) e = cc
listed name (r ∷ rs) (suc k) j o at named is = by (bytes_eq r.name name) refl o is (λ q e. listed name rs k j q at named e)
  where
    tail_is : (a b : ℕ) (xs ys : List ℕ) → a ∷ xs ≡ b ∷ ys → xs ≡ ys
    tail_is a b xs ys e = cc

    by : (b : Bool) → bytes_eq r.name name ≡ b → (o : Option ℕ) → map job_key (filter (is_named name) (r ∷ rs)) ≡ as_list o → ((q : Option ℕ) → map job_key (filter (is_named name) rs) ≡ as_list q → q ≡ Some j.job) → o ≡ Some j.job
    by true here None e later = let e' : r.job ∷ map job_key (filter (is_named name) rs) ≡ [] = rw here at e in absurd (cc)
    by true here (Some n) e later =
        let e' : r.job ∷ map job_key (filter (is_named name) rs) ≡ n ∷ [] = rw here at e in
        let none : None ≡ Some j.job = later None (tail_is _ _ _ _ e') in
        absurd (cc)
    by false here o e later = later o (rw here at e)

module _ (jobs : List JobRow) (high : ℕ) (rise : IsRising job_key 0 jobs high) (i : ℕ) (j : JobRow) (at : slice_get jobs i ≡ Some j) where
  only : (test : JobRow → Bool) → test j ≡ false → (k : ℕ) (l : JobRow) → slice_get jobs k ≡ Some l → l.job ≡ j.job → test l ≡ false
  only test off k l there same = ap test (one_of 0 jobs high i k j l rise at there same) ∙ off

  pub names_left : (names left : List (List ℕ × ℕ)) → KeepsNames names jobs → ((other : List ℕ) → number_of other left ≡ cond (bytes_eq j.name other) None (number_of other names))
      → length left + cond (is_some (number_of j.name names)) 1 0 ≤ length names → KeepsNames left (filter (remains j.job) jobs)
  names_left names left keeps found count =
      let there : number_of j.name names ≡ Some j.job = listed j.name jobs i j (number_of j.name names) at itself (keeps.named j.name) in
      let fewer : length left + 1 ≤ length names = subst (λ (o : Option ℕ). length left + cond (is_some o) 1 0 ≤ length names) there count in
      record {
        named = λ name. by (bytes_eq j.name name) name refl;
        as_many = omega (arith, fewer, keeps.as_many, count_left j.job 0 jobs high rise);
      }
    where
      itself : is_named j.name j ≡ true
      itself = (bytes_eq-Decides j.name j.name).1 refl

      by : (b : Bool) (name : List ℕ) → bytes_eq j.name name ≡ b → map job_key (filter (is_named name) (filter (remains j.job) jobs)) ≡ as_list (number_of name left)
      by true name is =
          let its = listed name jobs i j (number_of name names) at is (keeps.named name) in
          let all : map job_key (filter (is_named name) jobs) ≡ j.job ∷ [] = keeps.named name ∙ ap as_list its in
          let gone : eqb j.job j.job ≡ true = eq-eqb j.job j.job refl in
          numbers_left j.job (is_named name) jobs ∙ rw (all, found name, is, gone) refl
      by false name is =
          ap (map job_key) (same_left j.job (is_named name) jobs (only (is_named name) is)) ∙ rw (found name, is) (keeps.named name)

  module _ (done : is_pending j.state ≡ false) where
    pub ready_left : (slots : List SlotRow) (ready : List (List ℕ)) → KeepsReady jobs slots ready → KeepsReady (filter (remains j.job) jobs) slots ready
    ready_left slots ready keeps =
        record {
          priorities = all_left j.job has_priority jobs keeps.priorities;
          as_many = keeps.as_many;
          keys = λ show ks there. keeps.keys show ks there ∙ sym (ap (λ (js : List JobRow). sorted (map ready_key js)) (same_left j.job (is_ready_in slots show) jobs (only (is_ready_in slots show) (off slots show))));
        }
      where
        off : (slots : List SlotRow) (show : ℕ) → is_ready_in slots show j ≡ false
        off slots show = rw done (and_no (eqb j.show show))
          where
            and_no : (a : Bool) → (a && false) ≡ false
            and_no true = refl
            and_no false = refl
            -- ---- the finished ones

abbrev pub keys_of_finished : List JobRow → List ℕ
keys_of_finished js = sorted (map finish_key (filter is_finished js))

module _ (j : JobRow) (done : is_finished j ≡ true) where
  pub put_back : (low : ℕ) (js : List JobRow) (high i : ℕ) → high ≤ JOB_NUMBERS → IsRising job_key low js high → slice_get js i ≡ Some j → keys_of_finished js ≡ put_key (finish_key j) (keys_of_finished (filter (remains j.job) js))
  put_back low [] high i most rise at = absurd (none-some j at)
  put_back low (r ∷ rs) high zero most rise at =
      let same : r ≡ j = same_Some r j at in
      let its : eqb r.job j.job ≡ true = eq-eqb r.job j.job (ap (λ (m : JobRow). m.job) same) in
      let finished : is_finished r ≡ true = ap is_finished same ∙ done in
      let rest = above_left j.job (r.job + 1) rs high (omega (arith, ap (λ (m : JobRow). m.job) same)) rise.1 in
      rw (its, finished, rest) (ap (λ (m : JobRow). put_key (finish_key m) (keys_of_finished rs)) same)
  put_back low (r ∷ rs) high (suc i) most rise at =
      let bounds = at_bounds (r.job + 1) rs high i j rise.1 at in
      let within = rising_within job_key (r.job + 1) rs high rise.1 in
      let apart : r.job ≡ j.job → ⊥ = λ e. absurd (omega (arith, bounds.0, e)) in
      let other : eqb r.job j.job ≡ false = ne_eqb r.job j.job apart in
      by (is_finished r) refl other (keys_apart r.finish j.finish r.job j.job (omega (arith, within, most)) (omega (arith, bounds.1, most)) apart) (put_back (r.job + 1) rs high i most rise.1 at)
    where
      by : (b : Bool) → is_finished r ≡ b → eqb r.job j.job ≡ false → (finish_key r ≡ finish_key j → ⊥) → keys_of_finished rs ≡ put_key (finish_key j) (keys_of_finished (filter (remains j.job) rs))
          → keys_of_finished (r ∷ rs) ≡ put_key (finish_key j) (keys_of_finished (filter (remains j.job) (r ∷ rs)))
      by true is other apart later = rw (is, other, is) (ap (put_key (finish_key r)) later ∙ commute (finish_key r) (finish_key j) (keys_of_finished (filter (remains j.job) rs)) apart)
      by false is other apart later = rw (is, other, is) later

  pub absent : (low : ℕ) (js : List JobRow) (high : ℕ) → high ≤ JOB_NUMBERS → j.job < high → IsRising job_key low js high → list_any (λ (k : ℕ). eqb k (finish_key j)) (keys_of_finished (filter (remains j.job) js)) ≡ false
  absent low [] high most less rise = refl
  absent low (r ∷ rs) high most less rise =
      let within = rising_within job_key (r.job + 1) rs high rise.1 in
      by (eqb r.job j.job) (is_finished r) refl refl (omega (arith, within, most)) (absent (r.job + 1) rs high most less rise.1)
    where
      by : (a b : Bool) → eqb r.job j.job ≡ a → is_finished r ≡ b → r.job < JOB_NUMBERS → list_any (λ (k : ℕ). eqb k (finish_key j)) (keys_of_finished (filter (remains j.job) rs)) ≡ false
          → list_any (λ (k : ℕ). eqb k (finish_key j)) (keys_of_finished (filter (remains j.job) (r ∷ rs))) ≡ false
      by true b e f few later = rw e later
      by false true e f few later =
          let apart = keys_apart r.finish j.finish r.job j.job few (omega (arith, most, less)) (eqb-false r.job j.job e) in
          rw (e, f) (none-put (λ (k : ℕ). eqb k (finish_key j)) (finish_key r) (keys_of_finished (filter (remains j.job) rs)) (ne_eqb (finish_key r) (finish_key j) apart) later)
      by false false e f few later = rw (e, f) later

  pub finished_left : (jobs : List JobRow) (high i : ℕ) (keys : List ℕ) → high ≤ JOB_NUMBERS → IsRising job_key 0 jobs high → slice_get jobs i ≡ Some j → KeepsFinished jobs keys
      → KeepsFinished (filter (remains j.job) jobs) (drop_key (finish_key j) keys)
  finished_left jobs high i keys most rise at keeps =
      let bounds = at_bounds 0 jobs high i j rise at in
      record {
        keys_are = ap (drop_key (finish_key j)) (keeps.keys_are ∙ put_back 0 jobs high i most rise at)
            ∙ drop_put (finish_key j) (keys_of_finished (filter (remains j.job) jobs)) (absent 0 jobs high most bounds.1 rise);
        within = all_left j.job has_finish jobs keeps.within;
      }

-- ---- a finished job of a name

pub not_true : (b : Bool) → not b ≡ true → b ≡ false
not_true true h = absurd (false≢true h)
not_true false h = refl

-- a job leaves where it isn't pending
pub done_goes : (job : ℕ) (jobs : List JobRow) → is_of_pending jobs job ≡ false → without_done job jobs ≡ filter (remains job) jobs
done_goes job jobs is = ap (λ (b : Bool). cond b jobs (filter (remains job) jobs)) is

pub pending_remains : (job : ℕ) (jobs : List JobRow) → is_of_pending jobs job ≡ true → without_done job jobs ≡ jobs
pending_remains job jobs is = ap (λ (b : Bool). cond b jobs (filter (remains job) jobs)) is

-- a finished job is there, and isn't pending
pub done_there : (o : Option JobRow) → for_some o is_finished ≡ true → is_some o ≡ true
done_there None is = absurd (false≢true is)
done_there (Some j) is = refl

pub done_idle : (o : Option JobRow) → for_some o is_finished ≡ true → for_some o is_pending_job ≡ false
done_idle None is = refl
done_idle (Some j) is = not_true (is_pending j.state) is

-- the job that has the name
record HasName (name : List ℕ) (js : List JobRow) (n : ℕ) : Type 0 where
  place : ℕ
  row : JobRow
  at : slice_get js place ≡ Some row
  named : is_named name row ≡ true
  number : row.job ≡ n

there_named : (name : List ℕ) (js : List JobRow) (n : ℕ) → map job_key (filter (is_named name) js) ≡ n ∷ [] → HasName name js n
there_named name [] n is = absurd (cc)
there_named name (j ∷ js) n is = by (bytes_eq j.name name) refl (there_named name js n)
  where
    head_is : (a b : ℕ) (xs ys : List ℕ) → a ∷ xs ≡ b ∷ ys → a ≡ b
    head_is a b xs ys e = cc

    by : (b : Bool) → bytes_eq j.name name ≡ b → (map job_key (filter (is_named name) js) ≡ n ∷ [] → HasName name js n) → HasName name (j ∷ js) n
    by true named later = record { place = 0; row = j; at = refl; named = named; number = head_is _ _ _ _ (rw named at is) }
    by false other later = let r = later (rw other at is) in record { place = suc r.place; row = r.row; at = r.at; named = r.named; number = r.number }

no_one : (test : JobRow → Bool) (js : List JobRow) → ((k : ℕ) (j : JobRow) → slice_get js k ≡ Some j → test j ≡ false) → list_any test js ≡ false
no_one test [] none = refl
no_one test (j ∷ js) none = let here : test j ≡ false = none 0 j refl in rw here (no_one test js (λ k l at. none (suc k) l at))

someone : (test : JobRow → Bool) (js : List JobRow) (k : ℕ) (j : JobRow) → slice_get js k ≡ Some j → test j ≡ true → list_any test js ≡ true
someone test [] k j at passes = absurd (none-some j at)
someone test (r ∷ rs) zero j at passes = let here : test r ≡ true = ap test (same_Some r j at) ∙ passes in rw here refl
someone test (r ∷ rs) (suc k) j at passes = by (test r) refl (someone test rs k j at passes)
  where
    by : (b : Bool) → test r ≡ b → list_any test rs ≡ true → list_any test (r ∷ rs) ≡ true
    by true is later = rw is refl
    by false is later = rw is later

-- the job of a number is found
pub find_numbered : (n low : ℕ) (js : List JobRow) (high i : ℕ) (j : JobRow) → IsRising job_key low js high → slice_get js i ≡ Some j → j.job ≡ n → find (λ (k : JobRow). eqb k.job n) js ≡ Some j
find_numbered n low [] high i j rise at same = absurd (none-some j at)
find_numbered n low (k ∷ ks) high zero j rise at same =
    let it : k ≡ j = same_Some k j at in
    let here : eqb k.job n ≡ true = eq-eqb k.job n (ap (λ (m : JobRow). m.job) it ∙ same) in
    rw here at
find_numbered n low (k ∷ ks) high (suc i) j rise at same =
    let apart : eqb k.job n ≡ false = ne_eqb k.job n (λ e. absurd (omega (arith, e, same, (at_bounds (k.job + 1) ks high i j rise.1 at).0))) in
    rw apart (find_numbered n (k.job + 1) ks high i j rise.1 at same)

some_is : (n m : ℕ) → Some n ≡ Some m → n ≡ m
some_is n m e = cc

module _ (name : List ℕ) (jobs : List JobRow) (high : ℕ) (rise : IsRising job_key 0 jobs high) (n : ℕ) (is : map job_key (filter (is_named name) jobs) ≡ n ∷ []) where
  r : HasName name jobs n
  r = there_named name jobs n is

  pub named_is : (k : ℕ) (l : JobRow) → slice_get jobs k ≡ Some l → is_named name l ≡ eqb l.job n
  named_is k l at = by (bytes_eq l.name name) (eqb l.job n) refl refl
    where
      by : (a b : Bool) → bytes_eq l.name name ≡ a → eqb l.job n ≡ b → bytes_eq l.name name ≡ eqb l.job n
      by true true a b = a ∙ sym b
      by false false a b = a ∙ sym b
      by true false a b = absurd (eqb-false l.job n b (sym (some_is n l.job (listed name jobs k l (Some n) at a is))))
      by false true a b =
          let same : l ≡ r.row = one_of 0 jobs high r.place k r.row l rise r.at at (eqb-true l.job n b ∙ sym r.number) in
          absurd (false≢true (sym a ∙ ap (is_named name) same ∙ r.named))

  found : find (λ (j : JobRow). eqb j.job n) jobs ≡ Some r.row
  found = find_numbered n 0 jobs high r.place r.row rise r.at r.number

  of_row : (p : Bool) → is_of_pending jobs n ≡ p → is_pending r.row.state ≡ p
  of_row p h = sym (ap (λ (o : Option JobRow). for_some o is_pending_job) found) ∙ h

  filter_true : (js : List JobRow) → filter (λ (j : JobRow). true) js ≡ js
  filter_true [] = refl
  filter_true (j ∷ js) = ap (λ (ks : List JobRow). j ∷ ks) (filter_true js)

  not_finished : is_of_pending jobs n ≡ true → (k : ℕ) (l : JobRow) → slice_get jobs k ≡ Some l → is_finished_named name l ≡ false
  not_finished h k l at = by (bytes_eq l.name name) refl
    where
      by : (b : Bool) → bytes_eq l.name name ≡ b → is_finished_named name l ≡ false
      by false b = rw b (none (not (is_pending l.state)))
        where
          none : (c : Bool) → (c && false) ≡ false
          none true = refl
          none false = refl
      by true b =
          let same : l ≡ r.row = one_of 0 jobs high r.place k r.row l rise r.at at (sym (some_is n l.job (listed name jobs k l (Some n) at b is)) ∙ sym r.number) in
          let pending : is_pending l.state ≡ true = ap (λ (m : JobRow). is_pending m.state) same ∙ of_row true h in
          rw pending refl

  pub pending_stays : is_of_pending jobs n ≡ true → without_finished name jobs ≡ jobs
  pending_stays h = same_filter (λ (j : JobRow). true) (λ (j : JobRow). not (is_finished_named name j)) jobs (λ k l at. ap not (not_finished h k l at)) ∙ filter_true jobs

  -- whether a finished job has the name
  pub has_finished_is : not (is_of_pending jobs n) ≡ list_any (is_finished_named name) jobs
  has_finished_is = by (is_of_pending jobs n) refl
    where
      by : (b : Bool) → is_of_pending jobs n ≡ b → not (is_of_pending jobs n) ≡ list_any (is_finished_named name) jobs
      by true h = rw h (sym (no_one (is_finished_named name) jobs (not_finished h)))
      by false h =
          let done : is_pending r.row.state ≡ false = of_row false h in
          let named : bytes_eq r.row.name name ≡ true = r.named in
          rw h (sym (someone (is_finished_named name) jobs r.place r.row r.at (rw (done, named) refl)))

  pub finished_goes : is_of_pending jobs n ≡ false → filter (remains n) jobs ≡ without_finished name jobs
  finished_goes h = same_filter (λ (j : JobRow). not (is_finished_named name j)) (remains n) jobs (λ k l at. by k l at (bytes_eq l.name name) refl)
    where
      by : (k : ℕ) (l : JobRow) → slice_get jobs k ≡ Some l → (b : Bool) → bytes_eq l.name name ≡ b → remains n l ≡ not (is_finished_named name l)
      by k l at false b =
          let other : eqb l.job n ≡ false = sym (named_is k l at) ∙ b in
          rw (other, b) (sym (none (not (is_pending l.state))))
        where
          none : (c : Bool) → not (c && false) ≡ true
          none true = refl
          none false = refl
      by k l at true b =
          let same : l ≡ r.row = one_of 0 jobs high r.place k r.row l rise r.at at (sym (some_is n l.job (listed name jobs k l (Some n) at b is)) ∙ sym r.number) in
          let done : is_pending l.state ≡ false = ap (λ (m : JobRow). is_pending m.state) same ∙ of_row false h in
          let its : eqb l.job n ≡ true = sym (named_is k l at) ∙ b in
          rw (its, b, done) refl

  -- the job of the name leaves where it is finished
  pub named_leaves : without_done n jobs ≡ without_finished name jobs
  named_leaves = by (is_of_pending jobs n) refl
    where
      by : (b : Bool) → is_of_pending jobs n ≡ b → without_done n jobs ≡ without_finished name jobs
      by true h = pending_remains n jobs h ∙ sym (pending_stays h)
      by false h = done_goes n jobs h ∙ finished_goes h

  pub is_named_there : is_some (find (λ (j : JobRow). eqb j.job n) jobs) ≡ true
  is_named_there = ap (λ (o : Option JobRow). is_some o) found

  pub can_leave : is_of_pending jobs n ≡ false → for_some (find (λ (j : JobRow). eqb j.job n) jobs) is_finished ≡ true
  can_leave h = ap (λ (o : Option JobRow). for_some o is_finished) found ∙ ap not (of_row false h)

-- no job has the name
pub none_goes : (name : List ℕ) (js : List JobRow) → map job_key (filter (is_named name) js) ≡ [] → without_finished name js ≡ js
none_goes name [] is = refl
none_goes name (j ∷ js) is = by (bytes_eq j.name name) refl (none_goes name js)
  where
    none : (c : Bool) → (c && false) ≡ false
    none true = refl
    none false = refl

    by : (b : Bool) → bytes_eq j.name name ≡ b → (map job_key (filter (is_named name) js) ≡ [] → without_finished name js ≡ js) → without_finished name (j ∷ js) ≡ j ∷ js
    by true named later = let e : j.job ∷ map job_key (filter (is_named name) js) ≡ [] = rw named at is in absurd (cc)
    by false other later =
        let stays : is_finished_named name j ≡ false = rw other (none (not (is_pending j.state))) in
        rw stays (ap (λ (ks : List JobRow). j ∷ ks) (later (rw other at is)))

pub none_finished_named : (name : List ℕ) (js : List JobRow) → map job_key (filter (is_named name) js) ≡ [] → false ≡ list_any (is_finished_named name) js
none_finished_named name [] is = refl
none_finished_named name (j ∷ js) is = by (bytes_eq j.name name) refl (none_finished_named name js)
  where
    none : (c : Bool) → (c && false) ≡ false
    none true = refl
    none false = refl

    by : (b : Bool) → bytes_eq j.name name ≡ b → (map job_key (filter (is_named name) js) ≡ [] → false ≡ list_any (is_finished_named name) js) → false ≡ list_any (is_finished_named name) (j ∷ js)
    by true named later = let e : j.job ∷ map job_key (filter (is_named name) js) ≡ [] = rw named at is in absurd (cc)
    by false other later =
        let idle : is_finished_named name j ≡ false = rw other (none (not (is_pending j.state))) in
        rw idle (later (rw other at is))

-- ---- what is left can be placed

pub any_filtered : (test keep : JobRow → Bool) (js : List JobRow) → list_any test js ≡ false → list_any test (filter keep js) ≡ false
any_filtered test keep [] none = refl
any_filtered test keep (j ∷ js) none = by (test j) (keep j) refl refl none (any_filtered test keep js)
  where
    by : (a b : Bool) → test j ≡ a → keep j ≡ b → (test j || list_any test js) ≡ false → (list_any test js ≡ false → list_any test (filter keep js) ≡ false) → list_any test (filter keep (j ∷ js)) ≡ false
    by true b t k none later = absurd (false≢true (sym (rw t at none)))
    by false true t k none later = rw (k, t) (later (rw t at none))
    by false false t k none later = rw k (later (rw t at none))

pub unnamed_left : (name : List ℕ) (js : List JobRow) → list_any (is_pending_named name) js ≡ false → list_any (is_named name) (without_finished name js) ≡ false
unnamed_left name [] none = refl
unnamed_left name (j ∷ js) none = by (is_pending j.state) (bytes_eq j.name name) refl refl none (unnamed_left name js)
  where
    by : (p b : Bool) → is_pending j.state ≡ p → bytes_eq j.name name ≡ b → (is_pending_named name j || list_any (is_pending_named name) js) ≡ false
        → (list_any (is_pending_named name) js ≡ false → list_any (is_named name) (without_finished name js) ≡ false) → list_any (is_named name) (without_finished name (j ∷ js)) ≡ false
    by true true p b none later = absurd (false≢true (sym (rw (p, b) at none)))
    by true false p b none later = rw (p, b) (later (rw (p, b) at none))
    by false true p b none later = rw (p, b) (later (rw p at none))
    by false false p b none later = rw (p, b, b) (later (rw p at none))

same_layers : (b : JobLists) (jobs : List JobRow) (spec : JobSpec) (o : Option (List ℕ)) → layers_refusal (record b { jobs = jobs }) spec o ≡ layers_refusal b spec o
same_layers b jobs spec None = refl
same_layers b jobs spec (Some name) = refl

still_by : (c : Bool) (b : JobLists) (jobs : List JobRow) (spec : JobSpec) → list_any (is_pending_named spec.name) b.jobs ≡ c → c ≡ false → list_any (is_pending_named spec.name) jobs ≡ false → job_refusal b spec ≡ None
    → job_refusal (record b { jobs = jobs }) spec ≡ None
still_by true b jobs spec is not_it none accepted = absurd (false≢true (sym not_it))
still_by false b jobs spec is not_it none accepted = rw none (same_layers b jobs spec (repeated_name [] spec.layers) ∙ rw is at accepted)

pub still_accepted : (b : JobLists) (spec : JobSpec) → job_refusal b spec ≡ None → job_refusal (record b { jobs = without_finished spec.name b.jobs }) spec ≡ None
still_accepted b spec accepted =
    let new = accepted_new b spec accepted in
    still_by (list_any (is_pending_named spec.name) b.jobs) b (without_finished spec.name b.jobs) spec refl new (any_filtered (is_pending_named spec.name) (λ (j : JobRow). not (is_finished_named spec.name j)) b.jobs new) accepted
