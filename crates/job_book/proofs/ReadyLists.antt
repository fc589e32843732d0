-- The ready jobs of a show by keys: in the order of the definition, and after one job becomes ready or ceases to be.
use Rattle.std.proofs.Common.{◌≡◌, ℕ, zero, suc, ◌+◌, ◌-◌, ◌*◌, ◌<◌, ◌≤◌, ◌&&◌, not, Bool, true, false, cond, eqb, ltb, List, [], ◌∷◌, ◌++◌, length, map, filter, Option, Some, None, refl, sym, ap, ◌∙◌, ◌⊎◌, inl, inr, arith}
use Rattle.std.specs.Prelude.{nat_le}
use Rattle.std.specs.Option.{IfSome}
use Rattle.std.specs.List.{list_all, list_any, slice_get}
use Rattle.std.proofs.lemmas.Bool.{false≢true, cases_eq, eq-eqb, ne_eqb, lt-ltb, ltb-true, ltb-false, le-ltb, leb-true, and_from}
use Rattle.std.proofs.lemmas.List.{length-map}
use Rattle.std.proofs.lemmas.List.Folds.{list_all-append}
use Rattle.std.proofs.lemmas.Option.{none-some, same_Some}
use Rattle.farm_types.specs.declared.rows.JobRow.{JobRow}
use Rattle.farm_types.specs.declared.slot_row.SlotRow.{SlotRow}
use Rattle.farm_types.specs.Booking.{is_pending}
use Rattle.farm_types.specs.Farm.{changed_at}
use Rattle.farm_types.specs.Jobs.{JobLists}
use Rattle.farm_types.specs.Rising.{IsRising, job_key}
use Rattle.farm_types.proofs.Changed.{changed_at_each, length-changed_at}
use Rattle.farm_types.proofs.Lists.{and_both}
use Rattle.job_book.specs.Index.{by_priority, insert_job, ready_of}
use Rattle.job_book.specs.Ready.{CanBeReady, KeepsReady, change_of, has_priority, is_ready_in, ready_key, ready_keys, waits}
use Rattle.job_index.specs.Keys.{CanPut, drop_key, job_of, put_key, sorted}
use Rattle.job_index.proofs.PutKeys.{commute, drop_put, length-sorted, none-put, number_of_key}
use Rattle.job_book.proofs.PlacementLemmas.Placed.{rising_within}
use Rattle.farm_types.specs.declared.limits.TheConstants.{MOST_PRIORITY}
use Rattle.job_index.specs.declared.limits.TheConstants.{MOST_JOBS}
use Rattle.job_index.specs.declared.ready_jobs.TheConstants.{JOB_NUMBERS}

-- ---- the order of the keys is that of priorities and numbers

-- the job has a number above one, and a priority, for which its key stands
abbrev is_above : ℕ → JobRow → Bool
is_above low k = ltb low k.job && (ltb k.job JOB_NUMBERS && nat_le k.priority MOST_PRIORITY)

key_order : (p q a b : ℕ) → p ≤ MOST_PRIORITY → q ≤ MOST_PRIORITY → a < b → b < JOB_NUMBERS → (c : Bool) → ltb p q ≡ c → ltb ((MOST_PRIORITY - p) * JOB_NUMBERS + a) ((MOST_PRIORITY - q) * JOB_NUMBERS + b) ≡ not c
key_order p q a b hp hq less most true is = le-ltb _ _ (omega (arith, ltb-true p q is))
key_order p q a b hp hq less most false is = lt-ltb _ _ (omega (arith, ltb-false p q is))

module _ (test : JobRow → Bool) where
  insert_step : (b : Bool) (j k : JobRow) (ks : List JobRow) → ltb j.priority k.priority ≡ b → test j ≡ true → test k ≡ true → list_all test ks ≡ true → list_all test (insert_job j ks) ≡ true → list_all test (insert_job j (k ∷ ks)) ≡ true
  insert_step true j k ks is here first rest later = rw is (and_from _ _ first later)
  insert_step false j k ks is here first rest later = rw is (and_from _ _ here (and_from _ _ first rest))

  all-insert : (j : JobRow) (ks : List JobRow) → test j ≡ true → list_all test ks ≡ true → list_all test (insert_job j ks) ≡ true
  all-insert j [] here rest = and_from _ _ here refl
  all-insert j (k ∷ ks) here rest =
      let both = and_both (test k) (list_all test ks) rest in
      insert_step (ltb j.priority k.priority) j k ks refl here both.0 both.1 (all-insert j ks here both.1)

  all-by_priority : (js : List JobRow) → list_all test js ≡ true → list_all test (by_priority js) ≡ true
  all-by_priority [] all = refl
  all-by_priority (j ∷ js) all =
      let both = and_both (test j) (list_all test js) all in
      all-insert j (by_priority js) both.0 (all-by_priority js both.1)

  filter_step : (b : Bool) (p : JobRow → Bool) (j : JobRow) (js : List JobRow) → p j ≡ b → test j ≡ true → list_all test (filter p js) ≡ true → list_all test (filter p (j ∷ js)) ≡ true
  filter_step true p j js is here later = rw is (and_from _ _ here later)
  filter_step false p j js is here later = rw is later

  all-filter : (p : JobRow → Bool) (js : List JobRow) → list_all test js ≡ true → list_all test (filter p js) ≡ true
  all-filter p [] all = refl
  all-filter p (j ∷ js) all =
      let both = and_both (test j) (list_all test js) all in
      filter_step (p j) p j js refl both.0 (all-filter p js both.1)

-- numbers that rise are above those before
above_all : (a low : ℕ) (js : List JobRow) (high : ℕ) → a < low → high ≤ JOB_NUMBERS → IsRising job_key low js high → list_all has_priority js ≡ true → list_all (is_above a) js ≡ true
above_all a low [] high less most rise all = refl
above_all a low (j ∷ js) high less most rise all =
    let both = and_both (has_priority j) (list_all has_priority js) all in
    let within = rising_within job_key (j.job + 1) js high rise.1 in
    and_from _ _ (and_from _ _ (lt-ltb a j.job (omega (arith, less, rise.0))) (and_from _ _ (lt-ltb j.job JOB_NUMBERS (omega (arith, within, most))) both.0))
    (above_all a (j.job + 1) js high (omega (arith, less, rise.0)) most rise.1 both.1)

insert_is_put : (j : JobRow) (ks : List JobRow) → has_priority j ≡ true → list_all (is_above j.job) ks ≡ true → map ready_key (insert_job j ks) ≡ put_key (ready_key j) (map ready_key ks)
insert_is_put j [] here all = refl
insert_is_put j (k ∷ ks) here all =
    let both = and_both (is_above j.job k) (list_all (is_above j.job) ks) all in
    let first = and_both (ltb j.job k.job) (ltb k.job JOB_NUMBERS && nat_le k.priority MOST_PRIORITY) both.0 in
    let rest = and_both (ltb k.job JOB_NUMBERS) (nat_le k.priority MOST_PRIORITY) first.1 in
    let order : (c : Bool) → ltb j.priority k.priority ≡ c → ltb (ready_key j) (ready_key k) ≡ not c =
    key_order j.priority k.priority j.job k.job (leb-true j.priority MOST_PRIORITY here) (leb-true k.priority MOST_PRIORITY rest.1) (ltb-true j.job k.job first.0) (ltb-true k.job JOB_NUMBERS rest.0) in
    by (ltb j.priority k.priority) refl (order (ltb j.priority k.priority) refl) (insert_is_put j ks here both.1)
  where
    by : (c : Bool) → ltb j.priority k.priority ≡ c → ltb (ready_key j) (ready_key k) ≡ not (ltb j.priority k.priority) → map ready_key (insert_job j ks) ≡ put_key (ready_key j) (map ready_key ks)
        → map ready_key (insert_job j (k ∷ ks)) ≡ put_key (ready_key j) (map ready_key (k ∷ ks))
    by true is order later = let far = rw is at order in rw (is, far) (ap (λ ns. ready_key k ∷ ns) later)
    by false is order later = let near = rw is at order in rw (is, near) refl

by_sorted_step : (b : Bool) (p : JobRow → Bool) (j : JobRow) (js : List JobRow) → p j ≡ b → has_priority j ≡ true → list_all (is_above j.job) (by_priority (filter p js)) ≡ true
    → map ready_key (by_priority (filter p js)) ≡ sorted (map ready_key (filter p js)) → map ready_key (by_priority (filter p (j ∷ js))) ≡ sorted (map ready_key (filter p (j ∷ js)))
by_sorted_step true p j js is here all later = rw is (insert_is_put j (by_priority (filter p js)) here all ∙ ap (put_key (ready_key j)) later)
by_sorted_step false p j js is here all later = rw is later

by_sorted : (p : JobRow → Bool) (low : ℕ) (js : List JobRow) (high : ℕ) → high ≤ JOB_NUMBERS → IsRising job_key low js high → list_all has_priority js ≡ true
    → map ready_key (by_priority (filter p js)) ≡ sorted (map ready_key (filter p js))
by_sorted p low [] high most rise all = refl
by_sorted p low (j ∷ js) high most rise all =
    let both = and_both (has_priority j) (list_all has_priority js) all in
    let above = above_all j.job (j.job + 1) js high (omega arith) most rise.1 both.1 in
    by_sorted_step (p j) p j js refl both.0 (all-by_priority (is_above j.job) (filter p js) (all-filter (is_above j.job) p js above)) (by_sorted p (j.job + 1) js high most rise.1 both.1)

abbrev is_numbered : JobRow → Bool
is_numbered j = ltb j.job JOB_NUMBERS

numbered_all : (low : ℕ) (js : List JobRow) (high : ℕ) → high ≤ JOB_NUMBERS → IsRising job_key low js high → list_all is_numbered js ≡ true
numbered_all low [] high most rise = refl
numbered_all low (j ∷ js) high most rise =
    let within = rising_within job_key (j.job + 1) js high rise.1 in
    and_from _ _ (lt-ltb j.job JOB_NUMBERS (omega (arith, within, most))) (numbered_all (j.job + 1) js high most rise.1)

numbers_are : (js : List JobRow) → list_all is_numbered js ≡ true → map job_of (map ready_key js) ≡ map (λ (j : JobRow). j.job) js
numbers_are [] all = refl
numbers_are (j ∷ js) all =
    let both = and_both (is_numbered j) (list_all is_numbered js) all in
    λ i. number_of_key (MOST_PRIORITY - j.priority) j.job (ltb-true j.job JOB_NUMBERS both.0) i ∷ numbers_are js both.1 i

-- the numbers of the kept keys are the ready jobs
pub ready_is : (b : JobLists) (show : ℕ) → b.next_job ≤ JOB_NUMBERS → IsRising job_key 0 b.jobs b.next_job → list_all has_priority b.jobs ≡ true → map job_of (ready_keys b.jobs b.slots show) ≡ ready_of b show
ready_is b show most rise all =
    let test = is_ready_in b.slots show in
    ap (map job_of) (sym (by_sorted test 0 b.jobs b.next_job most rise all))
    ∙ numbers_are (by_priority (filter test b.jobs)) (all-by_priority is_numbered (filter test b.jobs) (all-filter is_numbered test b.jobs (numbered_all 0 b.jobs b.next_job most rise)))

fewer_step : (b : Bool) (p : JobRow → Bool) (j : JobRow) (js : List JobRow) → p j ≡ b → length (filter p js) ≤ length js → length (filter p (j ∷ js)) ≤ length (j ∷ js)
fewer_step true p j js is later = rw is (omega (arith, later))
fewer_step false p j js is later = rw is (omega (arith, later))

pub fewer : (p : JobRow → Bool) (js : List JobRow) → length (filter p js) ≤ length js
fewer p [] = omega arith
fewer p (j ∷ js) = fewer_step (p j) p j js refl (fewer p js)

-- ---- jobs by number

pub at_bounds : (low : ℕ) (js : List JobRow) (high i : ℕ) (j : JobRow) → IsRising job_key low js high → slice_get js i ≡ Some j → (low ≤ j.job) × (j.job < high)
at_bounds low [] high i j rise at = absurd (none-some j at)
at_bounds low (k ∷ ks) high zero j rise at =
    let same : k.job ≡ j.job = ap (λ (r : JobRow). r.job) (same_Some k j at) in
    (omega (arith, rise.0, same), omega (arith, same, rising_within job_key (k.job + 1) ks high rise.1))
at_bounds low (k ∷ ks) high (suc i) j rise at =
    let later = at_bounds (k.job + 1) ks high i j rise.1 at in
    (omega (arith, rise.0, later.0), later.1)

-- one job has a number
pub one_of : (low : ℕ) (js : List JobRow) (high i k : ℕ) (j l : JobRow) → IsRising job_key low js high → slice_get js i ≡ Some j → slice_get js k ≡ Some l → l.job ≡ j.job → l ≡ j
one_of low [] high i k j l rise at there same = absurd (none-some j at)
one_of low (r ∷ rs) high zero zero j l rise at there same = sym (same_Some r l there) ∙ same_Some r j at
one_of low (r ∷ rs) high zero (suc k) j l rise at there same =
    absurd (omega (arith, (at_bounds (r.job + 1) rs high k l rise.1 there).0, same, ap (λ (m : JobRow). m.job) (same_Some r j at)))
one_of low (r ∷ rs) high (suc i) zero j l rise at there same =
    absurd (omega (arith, (at_bounds (r.job + 1) rs high i j rise.1 at).0, same, ap (λ (m : JobRow). m.job) (same_Some r l there)))
one_of low (r ∷ rs) high (suc i) (suc k) j l rise at there same = one_of (r.job + 1) rs high i k j l rise.1 at there same

pub keys_apart : (x y a b : ℕ) → a < JOB_NUMBERS → b < JOB_NUMBERS → (a ≡ b → ⊥) → x * JOB_NUMBERS + a ≡ y * JOB_NUMBERS + b → ⊥
keys_apart x y a b ha hb apart e = apart (omega (arith, e))

same_filter_step : (b : Bool) (p q : JobRow → Bool) (j : JobRow) (js : List JobRow) → p j ≡ b → q j ≡ p j → filter q js ≡ filter p js → filter q (j ∷ js) ≡ filter p (j ∷ js)
same_filter_step true p q j js is same later = rw (same ∙ is, is) (ap (λ ks. j ∷ ks) later)
same_filter_step false p q j js is same later = rw (same ∙ is, is) later

pub same_filter : (p q : JobRow → Bool) (js : List JobRow) → ((k : ℕ) (j : JobRow) → slice_get js k ≡ Some j → q j ≡ p j) → filter q js ≡ filter p js
same_filter p q [] same = refl
same_filter p q (j ∷ js) same = same_filter_step (p j) p q j js refl (same 0 j refl) (same_filter p q js (λ k l at. same (suc k) l at))

abbrev keys_by : (JobRow → Bool) → List JobRow → List ℕ
keys_by p js = sorted (map ready_key (filter p js))

-- no job with the key, where no job of that number passes
absent_step : (b : Bool) (p : JobRow → Bool) (key : ℕ) (j : JobRow) (js : List JobRow) → p j ≡ b → (p j ≡ true → eqb (ready_key j) key ≡ false) → list_any (λ (k : ℕ). eqb k key) (keys_by p js) ≡ false
    → list_any (λ (k : ℕ). eqb k key) (keys_by p (j ∷ js)) ≡ false
absent_step true p key j js is apart later = rw is (none-put (λ (k : ℕ). eqb k key) (ready_key j) (keys_by p js) (apart is) later)
absent_step false p key j js is apart later = rw is later

absent : (p : JobRow → Bool) (key : ℕ) (js : List JobRow) → ((k : ℕ) (j : JobRow) → slice_get js k ≡ Some j → p j ≡ true → eqb (ready_key j) key ≡ false) → list_any (λ (k : ℕ). eqb k key) (keys_by p js) ≡ false
absent p key [] apart = refl
absent p key (j ∷ js) apart = absent_step (p j) p key j js refl (apart 0 j refl) (absent p key js (λ k l at. apart (suc k) l at))

module _ (p q : JobRow → Bool) (j : JobRow) (others : (l : JobRow) → (l.job ≡ j.job → ⊥) → q l ≡ p l) (off : p j ≡ false) (on : q j ≡ true) where
  put_first : (low : ℕ) (r : JobRow) (rs : List JobRow) (high : ℕ) → IsRising job_key low (r ∷ rs) high → r ≡ j → keys_by q (r ∷ rs) ≡ put_key (ready_key j) (keys_by p (r ∷ rs))
  put_first low r rs high rise same =
      let busy : q r ≡ true = ap q same ∙ on in
      let idle : p r ≡ false = ap p same ∙ off in
      let rest = same_filter p q rs (λ k l at. others l (λ e. absurd (omega (arith, (at_bounds (r.job + 1) rs high k l rise.1 at).0, e, ap (λ (m : JobRow). m.job) same)))) in
      rw (busy, idle) (ap (put_key (ready_key r)) (ap (λ ks. sorted (map ready_key ks)) rest) ∙ ap (λ (m : JobRow). put_key (ready_key m) (keys_by p rs)) same)

  put_later : (b : Bool) (r : JobRow) (rs : List JobRow) → p r ≡ b → q r ≡ p r → (ready_key r ≡ ready_key j → ⊥) → keys_by q rs ≡ put_key (ready_key j) (keys_by p rs) → keys_by q (r ∷ rs) ≡ put_key (ready_key j) (keys_by p (r ∷ rs))
  put_later true r rs is same apart later = rw (same ∙ is, is) (ap (put_key (ready_key r)) later ∙ commute (ready_key r) (ready_key j) (keys_by p rs) apart)
  put_later false r rs is same apart later = rw (same ∙ is, is) later

  -- the job that passes now goes to its place among the others
  put_in : (low : ℕ) (js : List JobRow) (high i : ℕ) → high ≤ JOB_NUMBERS → IsRising job_key low js high → slice_get js i ≡ Some j → keys_by q js ≡ put_key (ready_key j) (keys_by p js)
  put_in low [] high i most rise at = absurd (none-some j at)
  put_in low (r ∷ rs) high zero most rise at = put_first low r rs high rise (same_Some r j at)
  put_in low (r ∷ rs) high (suc i) most rise at =
      let bounds = at_bounds (r.job + 1) rs high i j rise.1 at in
      let within = rising_within job_key (r.job + 1) rs high rise.1 in
      let apart : r.job ≡ j.job → ⊥ = λ e. absurd (omega (arith, bounds.0, e)) in
      put_later (p r) r rs refl (others r apart) (keys_apart (MOST_PRIORITY - r.priority) (MOST_PRIORITY - j.priority) r.job j.job (omega (arith, within, most)) (omega (arith, bounds.1, most)) apart)
      (put_in (r.job + 1) rs high i most rise.1 at)

-- ---- one job's waiting frames change

module _ (jobs : List JobRow) (high : ℕ) (most : high ≤ JOB_NUMBERS) (rise : IsRising job_key 0 jobs high) (i : ℕ) (j : JobRow) (at : slice_get jobs i ≡ Some j) (pending : is_pending j.state ≡ true)
    (old new : List SlotRow) (others : (job : ℕ) → (job ≡ j.job → ⊥) → waits new job ≡ waits old job) where
  alike : (show : ℕ) (l : JobRow) → waits new l.job ≡ waits old l.job → is_ready_in new show l ≡ is_ready_in old show l
  alike show l same = ap (λ (w : Bool). eqb l.show show && (is_pending l.state && w)) same

  -- of another show nothing changes
  keys_other : (show : ℕ) → (show ≡ j.show → ⊥) → ready_keys jobs new show ≡ ready_keys jobs old show
  keys_other show apart = ap (λ ks. sorted (map ready_key ks)) (same_filter (is_ready_in old show) (is_ready_in new show) jobs (λ k l there. by k l there (cases_eq l.job j.job)))
    where
      by : (k : ℕ) (l : JobRow) → slice_get jobs k ≡ Some l → (l.job ≡ j.job) ⊎ (l.job ≡ j.job → ⊥) → is_ready_in new show l ≡ is_ready_in old show l
      by k l there (inr far) = alike show l (others l.job far)
      by k l there (inl same) =
          let it : l ≡ j = one_of 0 jobs high i k j l rise at there same in
          let idle : eqb l.show show ≡ false = ne_eqb l.show show (λ e. apart (sym e ∙ ap (λ (m : JobRow). m.show) it)) in
          rw idle refl

  -- where the job waits as before, nothing changes at all
  keys_same : waits new j.job ≡ waits old j.job → (show : ℕ) → ready_keys jobs new show ≡ ready_keys jobs old show
  keys_same stays show = ap (λ ks. sorted (map ready_key ks)) (same_filter (is_ready_in old show) (is_ready_in new show) jobs (λ k l there. by l (cases_eq l.job j.job)))
    where
      by : (l : JobRow) → (l.job ≡ j.job) ⊎ (l.job ≡ j.job → ⊥) → is_ready_in new show l ≡ is_ready_in old show l
      by l (inr far) = alike show l (others l.job far)
      by l (inl same) = alike show l (ap (waits new) same ∙ stays ∙ sym (ap (waits old) same))

  ready_as : (slots : List SlotRow) (w : Bool) → waits slots j.job ≡ w → is_ready_in slots j.show j ≡ w
  ready_as slots w is = rw (eq-eqb j.show j.show refl, pending, is) refl

  -- no other job has its key
  pub none_there : (slots : List SlotRow) → waits slots j.job ≡ false → list_any (λ (k : ℕ). eqb k (ready_key j)) (ready_keys jobs slots j.show) ≡ false
  none_there slots idle = absent (is_ready_in slots j.show) (ready_key j) jobs (λ k l there passes. ne_eqb _ _ (by k l there passes (cases_eq l.job j.job)))
    where
      by : (k : ℕ) (l : JobRow) → slice_get jobs k ≡ Some l → is_ready_in slots j.show l ≡ true → (l.job ≡ j.job) ⊎ (l.job ≡ j.job → ⊥) → ready_key l ≡ ready_key j → ⊥
      by k l there passes (inl same) e = false≢true (sym (ready_as slots false idle) ∙ ap (is_ready_in slots j.show) (sym (one_of 0 jobs high i k j l rise at there same)) ∙ passes)
      by k l there passes (inr far) e =
          keys_apart (MOST_PRIORITY - l.priority) (MOST_PRIORITY - j.priority) l.job j.job (omega (arith, (at_bounds 0 jobs high k l rise there).1, most)) (omega (arith, (at_bounds 0 jobs high i j rise at).1, most)) far e

  keys_put : waits old j.job ≡ false → waits new j.job ≡ true → ready_keys jobs new j.show ≡ put_key (ready_key j) (ready_keys jobs old j.show)
  keys_put idle busy = put_in (is_ready_in old j.show) (is_ready_in new j.show) j (λ l far. alike j.show l (others l.job far)) (ready_as old false idle) (ready_as new true busy) 0 jobs high i most rise at

  keys_drop : waits old j.job ≡ true → waits new j.job ≡ false → ready_keys jobs new j.show ≡ drop_key (ready_key j) (ready_keys jobs old j.show)
  keys_drop busy idle =
      let back = put_in (is_ready_in new j.show) (is_ready_in old j.show) j (λ l far. sym (alike j.show l (others l.job far))) (ready_as new false idle) (ready_as old true busy) 0 jobs high i most rise at in
      sym (ap (drop_key (ready_key j)) back ∙ drop_put (ready_key j) (ready_keys jobs new j.show) (none_there new idle))

  module _ (ready : List (List ℕ)) (keeps : KeepsReady jobs old ready) where
    -- the job can go in where it isn't there
    pub can_be_ready : length jobs < MOST_JOBS → waits old j.job ≡ false → CanBeReady j ready
    can_be_ready few idle = by (slice_get ready j.show) refl
      where
        by : (o : Option (List ℕ)) → slice_get ready j.show ≡ o → IfSome o (CanPut (ready_key j))
        by None e = tt
        by (Some ks) e =
            let is = keeps.keys j.show ks e in
            let long : length (ready_keys jobs old j.show) ≤ length jobs =
            omega (arith, length-sorted (map ready_key (filter (is_ready_in old j.show) jobs)), length-map (filter (is_ready_in old j.show) jobs) ready_key, fewer (is_ready_in old j.show) jobs) in
            record {
              new = ap (list_any (λ (k : ℕ). eqb k (ready_key j))) is ∙ none_there old idle;
              few = omega (arith, ap (λ (ns : List ℕ). length ns) is, long, few);
            }

    changed_to : (change : List ℕ → List ℕ) → ready_keys jobs new j.show ≡ change (ready_keys jobs old j.show) → KeepsReady jobs new (changed_at ready j.show change)
    changed_to change here =
        record {
          priorities = keeps.priorities;
          as_many = length-changed_at ready j.show change ∙ keeps.as_many;
          keys = changed_at_each (λ (show : ℕ) (ks : List ℕ). ks ≡ ready_keys jobs new show) ready j.show change
              (λ ks there. ap change (keeps.keys j.show ks there) ∙ sym here)
              (λ show ks apart there. keeps.keys show ks there ∙ sym (keys_other show apart));
        }

    stays_ready : waits new j.job ≡ waits old j.job → KeepsReady jobs new ready
    stays_ready same = record { priorities = keeps.priorities; as_many = keeps.as_many; keys = λ show ks there. keeps.keys show ks there ∙ sym (keys_same same show) }

    pub ready_after : (had has : Bool) → waits old j.job ≡ had → waits new j.job ≡ has → KeepsReady jobs new (change_of had has ready j)
    ready_after false true idle busy = changed_to (put_key (ready_key j)) (keys_put idle busy)
    ready_after true false busy idle = changed_to (drop_key (ready_key j)) (keys_drop busy idle)
    ready_after false false idle still = stays_ready (still ∙ sym idle)
    ready_after true true busy still = stays_ready (still ∙ sym busy)

-- ---- slots of which each job's waiting frames are the same, and one job more

pub same_ready : (jobs : List JobRow) (old new : List SlotRow) (ready : List (List ℕ)) → ((k : ℕ) (l : JobRow) → slice_get jobs k ≡ Some l → waits new l.job ≡ waits old l.job) → KeepsReady jobs old ready → KeepsReady jobs new ready
same_ready jobs old new ready same keeps =
    record {
      priorities = keeps.priorities;
      as_many = keeps.as_many;
      keys = λ show ks there. keeps.keys show ks there
          ∙ sym (ap (λ ks. sorted (map ready_key ks)) (same_filter (is_ready_in old show) (is_ready_in new show) jobs (λ k l here. ap (λ (w : Bool). eqb l.show show && (is_pending l.state && w)) (same k l here))));
    }

filter_push : (p : JobRow → Bool) (js : List JobRow) (j : JobRow) → p j ≡ false → filter p (js ++ j ∷ []) ≡ filter p js
filter_push p [] j off = rw off refl
filter_push p (k ∷ ks) j off = ap (λ (rs : List JobRow). cond (p k) (k ∷ rs) rs) (filter_push p ks j off)

-- a job that has no waiting frame yet
pub more_ready : (jobs : List JobRow) (j : JobRow) (slots : List SlotRow) (ready : List (List ℕ)) → has_priority j ≡ true → waits slots j.job ≡ false → KeepsReady jobs slots ready → KeepsReady (jobs ++ j ∷ []) slots ready
more_ready jobs j slots ready here idle keeps =
    record {
      priorities = list_all-append has_priority jobs (j ∷ []) ∙ and_from _ _ keeps.priorities (and_from _ _ here refl);
      as_many = keeps.as_many;
      keys = λ show ks there. keeps.keys show ks there ∙ sym (ap (λ ks. sorted (map ready_key ks)) (filter_push (is_ready_in slots show) jobs j (off show)));
    }
  where
    off : (show : ℕ) → is_ready_in slots show j ≡ false
    off show = rw idle (and_off (eqb j.show show) (is_pending j.state))
      where
        and_off : (a b : Bool) → (a && (b && false)) ≡ false
        and_off true true = refl
        and_off true false = refl
        and_off false b = refl
