-- Where more jobs are finished than are kept: the one that finished first.
use Rattle.std.proofs.Common.{◌≡◌, ℕ, zero, suc, ◌+◌, ◌*◌, ◌≤◌, ◌<◌, ◌||◌, Bool, true, false, not, cond, eqb, ltb, List, [], ◌∷◌, map, filter, length, drop, Option, Some, refl, sym, ap, subst, ◌∙◌, arith}
use Rattle.std.specs.Prelude.{get_or, nat_eq, nat_le, nat_lt}
use Rattle.std.specs.List.{AllByRecursion, IsDistinct, find, list_all, slice_get}
use Rattle.std.proofs.lemmas.Bool.{false≢true, eq-eqb, eqb-true, eqb-false, and_from, ltb-true, ltb-false, le-leb, leb-true, lt-ltb, le-ltb}
use Rattle.std.proofs.lemmas.List.{length-map}
use Rattle.std.proofs.lemmas.Map.Keys.{IsDistinct-head, IsDistinct-tail}
use Rattle.std.proofs.lemmas.Option.{none-some, same_Some}
use Rattle.farm_types.specs.declared.limits.TheConstants.{MOST_FINISHED}
use Rattle.farm_types.specs.declared.rows.JobRow.{JobRow}
use Rattle.farm_types.specs.Booking.{is_pending}
use Rattle.farm_types.specs.Farm.{for_some}
use Rattle.farm_types.specs.Finish.{cut_finished, is_finished, is_first_finished}
use Rattle.farm_types.specs.Kept.{finish_of}
use Rattle.farm_types.specs.Rising.{IsRising, job_key}
use Rattle.farm_types.proofs.Lists.{and_both, list_all-at, list_all-from_at}
use Rattle.job_index.specs.declared.ready_jobs.TheConstants.{JOB_NUMBERS}
use Rattle.job_book.specs.Finished.{KeepsFinished, finish_key, finished_of}
use Rattle.job_index.specs.Keys.{drop_key, job_of, put_key, sorted}
use Rattle.job_book.proofs.EndingLemmas.LeftJobs.{find_numbered, finished_left, not_true}
use Rattle.job_book.proofs.ReadyLists.{at_bounds, one_of, same_filter}
use Rattle.job_index.proofs.PutKeys.{length-put, length-sorted, number_of_key}

abbrev keys_of : List JobRow → List ℕ
keys_of js = sorted (map finish_key (filter is_finished js))

-- as many keys as finished jobs
length-keys_of : (js : List JobRow) → length (keys_of js) ≡ length (filter is_finished js)
length-keys_of js = length-sorted (map finish_key (filter is_finished js)) ∙ length-map (filter is_finished js) finish_key

-- ---- the first key is the least

no_keys : (key : ℕ) (ks : List ℕ) → put_key key ks ≡ [] → ⊥
no_keys key ks e = absurd (omega (arith, length-put key ks, ap (λ (ns : List ℕ). length ns) e))

none_finished : (js : List JobRow) → keys_of js ≡ [] → (k : ℕ) (l : JobRow) → slice_get js k ≡ Some l → is_finished l ≡ false
none_finished [] none k l at = absurd (none-some l at)
none_finished (r ∷ rs) none k l at = by (is_finished r) refl k at (none_finished rs)
  where
    by : (b : Bool) → is_finished r ≡ b → (k : ℕ) → slice_get (r ∷ rs) k ≡ Some l → (keys_of rs ≡ [] → (i : ℕ) (m : JobRow) → slice_get rs i ≡ Some m → is_finished m ≡ false) → is_finished l ≡ false
    by true is k at later = absurd (no_keys (finish_key r) (keys_of rs) (rw is at none))
    by false is zero at later = sym (ap is_finished (same_Some r l at)) ∙ is
    by false is (suc k) at later = later (rw is at none) k l at

-- a finished job of that key, and none of a lower one
record IsFirst (jobs : List JobRow) (key : ℕ) : Type 0 where
  place : ℕ
  row : JobRow
  at : slice_get jobs place ≡ Some row
  finished : is_finished row ≡ true
  its : finish_key row ≡ key
  least : (k : ℕ) (l : JobRow) → slice_get jobs k ≡ Some l → is_finished l ≡ true → key ≤ finish_key l

head_is : (a b : ℕ) (xs ys : List ℕ) → a ∷ xs ≡ b ∷ ys → a ≡ b
head_is a b xs ys e = cc

module _ (r : JobRow) (rs : List JobRow) (key : ℕ) where
  -- the first job itself
  itself_first : is_finished r ≡ true → finish_key r ≡ key → ((k : ℕ) (l : JobRow) → slice_get rs k ≡ Some l → is_finished l ≡ true → key ≤ finish_key l) → IsFirst (r ∷ rs) key
  itself_first done its least = record { place = 0; row = r; at = refl; finished = done; its = its; least = by }
    where
      by : (k : ℕ) (l : JobRow) → slice_get (r ∷ rs) k ≡ Some l → is_finished l ≡ true → key ≤ finish_key l
      by zero l at fin = let same : finish_key r ≡ finish_key l = ap finish_key (same_Some r l at) in omega (arith, its, same)
      by (suc k) l at fin = least k l at fin

  -- one of the others
  later_first : (is_finished r ≡ true → key ≤ finish_key r) → IsFirst rs key → IsFirst (r ∷ rs) key
  later_first above f = record { place = suc f.place; row = f.row; at = f.at; finished = f.finished; its = f.its; least = by }
    where
      by : (k : ℕ) (l : JobRow) → slice_get (r ∷ rs) k ≡ Some l → is_finished l ≡ true → key ≤ finish_key l
      by zero l at fin =
          let same : r ≡ l = same_Some r l at in
          let less : key ≤ finish_key r = above (ap is_finished same ∙ fin) in
          subst (λ (m : JobRow). key ≤ finish_key m) same less
      by (suc k) l at fin = f.least k l at fin

first_is : (js : List JobRow) (key : ℕ) (ks : List ℕ) → keys_of js ≡ key ∷ ks → IsFirst js key
first_is [] key ks is = absurd (cc)
first_is (r ∷ rs) key ks is = by (is_finished r) refl (first_is rs)
  where
    order : is_finished r ≡ true → (n : ℕ) (ns : List ℕ) → IsFirst rs n → (b : Bool) → ltb (finish_key r) n ≡ b → put_key (finish_key r) (n ∷ ns) ≡ key ∷ ks → IsFirst (r ∷ rs) key
    order done n ns f true less e =
        let its : finish_key r ≡ key = head_is _ _ _ _ (rw less at e) in
        itself_first r rs key done its (λ k l at fin. omega (arith, its, ltb-true (finish_key r) n less, f.least k l at fin))
    order done n ns f false more e =
        let same : n ≡ key = head_is _ _ _ _ (rw more at e) in
        later_first r rs key (λ fin. omega (arith, same, ltb-false (finish_key r) n more)) (subst (IsFirst rs) same f)

    among : is_finished r ≡ true → (qs : List ℕ) → keys_of rs ≡ qs → put_key (finish_key r) qs ≡ key ∷ ks → ((n : ℕ) (ns : List ℕ) → keys_of rs ≡ n ∷ ns → IsFirst rs n) → IsFirst (r ∷ rs) key
    among done [] q e later = itself_first r rs key done (head_is _ _ _ _ e) (λ k l at fin. absurd (false≢true (sym (none_finished rs q k l at) ∙ fin)))
    among done (n ∷ ns) q e later = order done n ns (later n ns q) (ltb (finish_key r) n) refl e

    by : (b : Bool) → is_finished r ≡ b → ((n : ℕ) (ns : List ℕ) → keys_of rs ≡ n ∷ ns → IsFirst rs n) → IsFirst (r ∷ rs) key
    by true done later = among done (keys_of rs) refl (rw done at is) later
    by false done later = later_first r rs key (λ fin. absurd (false≢true (sym done ∙ fin))) (later key ks (rw done at is))

-- ---- it finished before the others

-- a number that differs from those of all finished jobs isn't that of one of them
apart_at : (n : ℕ) (js : List JobRow) → AllByRecursion (λ (m : ℕ). nat_eq n m ≡ false) (map finish_of (filter is_finished js)) → (k : ℕ) (l : JobRow) → slice_get js k ≡ Some l → is_finished l ≡ true → nat_eq n l.finish ≡ false
apart_at n [] apart k l at fin = absurd (none-some l at)
apart_at n (r ∷ rs) apart k l at fin = by (is_finished r) refl k at (apart_at n rs)
  where
    by : (b : Bool) → is_finished r ≡ b → (k : ℕ) → slice_get (r ∷ rs) k ≡ Some l
        → (AllByRecursion (λ (m : ℕ). nat_eq n m ≡ false) (map finish_of (filter is_finished rs)) → (i : ℕ) (m : JobRow) → slice_get rs i ≡ Some m → is_finished m ≡ true → nat_eq n m.finish ≡ false) → nat_eq n l.finish ≡ false
    by true is zero at later = let all = rw is at apart in ap (λ (m : JobRow). nat_eq n m.finish) (sym (same_Some r l at)) ∙ all.0
    by true is (suc k) at later = let all = rw is at apart in later all.1 k l at fin
    by false is zero at later = absurd (false≢true (sym is ∙ ap is_finished (same_Some r l at) ∙ fin))
    by false is (suc k) at later = later (rw is at apart) k l at fin

-- finished jobs of one number are one
one_finish : (js : List JobRow) → IsDistinct nat_eq (map finish_of (filter is_finished js)) → (i k : ℕ) (j l : JobRow) → slice_get js i ≡ Some j → slice_get js k ≡ Some l → is_finished j ≡ true → is_finished l ≡ true → j.finish ≡ l.finish → j ≡ l
one_finish [] differ i k j l at there fin done same = absurd (none-some j at)
one_finish (r ∷ rs) differ zero zero j l at there fin done same = sym (same_Some r j at) ∙ same_Some r l there
one_finish (r ∷ rs) differ zero (suc k) j l at there fin done same =
    let first = same_Some r j at in
    let here : is_finished r ≡ true = ap is_finished first ∙ fin in
    let all : IsDistinct nat_eq (r.finish ∷ map finish_of (filter is_finished rs)) = rw here at differ in
    absurd (eqb-false r.finish l.finish (apart_at r.finish rs (IsDistinct-head nat_eq r.finish (map finish_of (filter is_finished rs)) all) k l there done) (ap finish_of first ∙ same))
one_finish (r ∷ rs) differ (suc i) zero j l at there fin done same =
    let first = same_Some r l there in
    let here : is_finished r ≡ true = ap is_finished first ∙ done in
    let all : IsDistinct nat_eq (r.finish ∷ map finish_of (filter is_finished rs)) = rw here at differ in
    absurd (eqb-false r.finish j.finish (apart_at r.finish rs (IsDistinct-head nat_eq r.finish (map finish_of (filter is_finished rs)) all) i j at fin) (ap finish_of first ∙ sym same))
one_finish (r ∷ rs) differ (suc i) (suc k) j l at there fin done same = one_finish rs (rest (is_finished r) refl) i k j l at there fin done same
  where
    rest : (b : Bool) → is_finished r ≡ b → IsDistinct nat_eq (map finish_of (filter is_finished rs))
    rest true is =
        let all : IsDistinct nat_eq (r.finish ∷ map finish_of (filter is_finished rs)) = rw is at differ in
        IsDistinct-tail nat_eq r.finish (map finish_of (filter is_finished rs)) all
    rest false is = rw is at differ

module _ (jobs : List JobRow) (high : ℕ) (most : high ≤ JOB_NUMBERS) (rise : IsRising job_key 0 jobs high) (key : ℕ) (f : IsFirst jobs key) where
  below : (k : ℕ) (l : JobRow) → slice_get jobs k ≡ Some l → l.job < JOB_NUMBERS
  below k l at = omega (arith, most, (at_bounds 0 jobs high k l rise at).1)

  number_is : job_of key ≡ f.row.job
  number_is = ap job_of (sym f.its) ∙ number_of_key f.row.finish f.row.job (below f.place f.row f.at)

  earlier : (k : ℕ) (l : JobRow) → slice_get jobs k ≡ Some l → is_finished l ≡ true → f.row.finish ≤ l.finish
  earlier k l at fin =
      let least : f.row.finish * JOB_NUMBERS + f.row.job ≤ l.finish * JOB_NUMBERS + l.job = omega (arith, f.its, f.least k l at fin) in
      omega (arith, least, below k l at)

  -- it can leave
  first_leaves : for_some (find (λ (j : JobRow). eqb j.job (job_of key)) jobs) is_finished ≡ true
  first_leaves = ap (λ (o : Option JobRow). for_some o is_finished) (find_numbered (job_of key) 0 jobs high f.place f.row rise f.at (sym number_is)) ∙ f.finished

  module _ (differ : IsDistinct nat_eq (map finish_of (filter is_finished jobs))) where
    all_later : list_all (λ (k : JobRow). is_pending k.state || nat_le f.row.finish k.finish) jobs ≡ true
    all_later = list_all-from_at (λ (k : JobRow). is_pending k.state || nat_le f.row.finish k.finish) jobs (λ k l at. by k l at (is_pending l.state) refl)
      where
        by : (k : ℕ) (l : JobRow) → slice_get jobs k ≡ Some l → (b : Bool) → is_pending l.state ≡ b → (is_pending l.state || nat_le f.row.finish l.finish) ≡ true
        by k l at true is = rw is refl
        by k l at false is = rw is (le-leb f.row.finish l.finish (earlier k l at (ap not is)))

    first_test : (k : ℕ) (l : JobRow) → slice_get jobs k ≡ Some l → is_first_finished jobs l ≡ eqb l.job f.row.job
    first_test k l at = by (eqb l.job f.row.job) (is_first_finished jobs l) refl refl
      where
        by : (a b : Bool) → eqb l.job f.row.job ≡ a → is_first_finished jobs l ≡ b → is_first_finished jobs l ≡ eqb l.job f.row.job
        by true b its is =
            let same : l ≡ f.row = one_of 0 jobs high f.place k f.row l rise f.at at (eqb-true l.job f.row.job its) in
            ap (is_first_finished jobs) same ∙ and_from (is_finished f.row) _ f.finished all_later ∙ sym its
        by false false its is = is ∙ sym its
        by false true its is =
            let both = and_both (is_finished l) (list_all (λ (m : JobRow). is_pending m.state || nat_le l.finish m.finish) jobs) is in
            let its_own = list_all-at (λ (m : JobRow). is_pending m.state || nat_le l.finish m.finish) jobs f.place f.row both.1 f.at in
            let idle : is_pending f.row.state ≡ false = not_true (is_pending f.row.state) f.finished in
            let no_later : nat_le l.finish f.row.finish ≡ true = rw idle at its_own in
            let equal : l.finish ≡ f.row.finish = omega (arith, leb-true l.finish f.row.finish no_later, earlier k l at both.0) in
            let same : l ≡ f.row = one_finish jobs differ k f.place l f.row at f.at both.0 f.finished equal in
            absurd (eqb-false l.job f.row.job its (ap job_key same))

    -- without it
    first_goes : nat_lt MOST_FINISHED (length (filter is_finished jobs)) ≡ true → filter (λ (j : JobRow). not (eqb j.job (job_of key))) jobs ≡ cut_finished jobs
    first_goes more =
        rw (number_is, more) (sym (same_filter (λ (j : JobRow). not (eqb j.job f.row.job)) (λ (j : JobRow). not (is_first_finished jobs j)) jobs (λ k l at. ap not (first_test k l at))))

-- ---- the first of the numbers of the keys

record HasFirst (keys : List ℕ) : Type 0 where
  key : ℕ
  rest : List ℕ
  is : keys ≡ key ∷ rest

first_key : (keys : List ℕ) → 0 < length keys → HasFirst keys
first_key [] some = absurd (omega (arith, some))
first_key (k ∷ ks) some = record { key = k; rest = ks; is = refl }

dropped : (key : ℕ) (ks : List ℕ) → drop_key key (key ∷ ks) ≡ ks
dropped key ks = ap (λ (b : Bool). cond b ks (key ∷ drop_key key ks)) (eq-eqb key key refl)

module _ (jobs : List JobRow) (high : ℕ) (most : high ≤ JOB_NUMBERS) (rise : IsRising job_key 0 jobs high) (keys numbers : List ℕ) (keys_are : keys ≡ keys_of jobs) (numbers_are : numbers ≡ map job_of keys) where
  as_many : length numbers ≡ length (filter is_finished jobs)
  as_many = ap (λ (ns : List ℕ). length ns) numbers_are ∙ length-map keys job_of ∙ ap (λ (ns : List ℕ). length ns) keys_are ∙ length-keys_of jobs

  -- no more than are kept
  pub few_stay : length numbers ≤ MOST_FINISHED → jobs ≡ cut_finished jobs
  few_stay few = let within : nat_lt MOST_FINISHED (length (filter is_finished jobs)) ≡ false = le-ltb MOST_FINISHED (length (filter is_finished jobs)) (omega (arith, few, as_many)) in rw within refl

  module _ (some : 0 < length numbers) (first : ℕ) (is : first ≡ get_or numbers 0 first) where
    f : HasFirst keys
    f = first_key keys (omega (arith, some, ap (λ (ns : List ℕ). length ns) numbers_are, length-map keys job_of))

    its_number : first ≡ job_of f.key
    its_number = is ∙ ap (λ (ns : List ℕ). get_or ns 0 first) (numbers_are ∙ ap (map job_of) f.is)

    itself : IsFirst jobs f.key
    itself = first_is jobs f.key f.rest (sym keys_are ∙ f.is)

    pub can_go : for_some (find (λ (j : JobRow). eqb j.job first) jobs) is_finished ≡ true
    can_go = ap (λ (n : ℕ). for_some (find (λ (j : JobRow). eqb j.job n) jobs) is_finished) its_number ∙ first_leaves jobs high most rise f.key itself

    pub goes : MOST_FINISHED < length numbers → IsDistinct nat_eq (map finish_of (filter is_finished jobs)) → filter (λ (j : JobRow). not (eqb j.job first)) jobs ≡ cut_finished jobs
    goes more differ =
        ap (λ (n : ℕ). filter (λ (j : JobRow). not (eqb j.job n)) jobs) its_number
        ∙ first_goes jobs high most rise f.key itself differ (lt-ltb MOST_FINISHED (length (filter is_finished jobs)) (omega (arith, more, as_many)))

    -- the later ones are left
    pub later_left : KeepsFinished jobs keys → finished_of (filter (λ (j : JobRow). not (eqb j.job first)) jobs) ≡ drop 1 numbers
    later_left keeps =
        let kept = finished_left itself.row itself.finished jobs high itself.place keys most rise itself.at keeps in
        let number : first ≡ itself.row.job = its_number ∙ number_is jobs high most rise f.key itself in
        let rest : drop_key (finish_key itself.row) keys ≡ f.rest = (λ i. drop_key (itself.its i) (f.is i)) ∙ dropped f.key f.rest in
        ap (λ (n : ℕ). finished_of (filter (λ (j : JobRow). not (eqb j.job n)) jobs)) number
        ∙ (ap (map job_of) (sym kept.keys_are ∙ rest) ∙ sym (ap (drop 1) (numbers_are ∙ ap (map job_of) f.is)))
