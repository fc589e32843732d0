-- The ranks of a show's ready jobs: by priority, the highest first, then by number.
use Rattle.std.proofs.Common.{◌≡◌, ℕ, ◌+◌, ◌≤◌, ◌&&◌, ◌⊎◌, inl, inr, Bool, true, false, cond, List, [], ◌∷◌, Some, refl, sym, ap, subst, ◌∙◌, arith, filter, find, eqb}
use Rattle.std.specs.Cmp.{IsTotalOrder}
use Rattle.std.specs.List.{flat_map}
use Rattle.std.specs.Prelude.{nat_lt}
use Rattle.std.specs.declared.cmp.Ordering.{Ordering}
use Rattle.std.specs.declared.cmp.Ordering.TheVariants.{Less, Equal, Greater}
use Rattle.std.specs.Ordering.{is_gt, nat_cmp, ordering_then}
use Rattle.std.proofs.lemmas.Bool.{eqb-true, false≢true}
use Rattle.std.proofs.lemmas.Bool.Decides.{nat_tests}
use Rattle.std.proofs.lemmas.Cmp.{nat_cmp_total, then_total, on_total, back_total, ranked}
use Rattle.std.proofs.lemmas.List.Folds.{flat_map-map}
use Rattle.std.proofs.lemmas.Option.{same_Some}
use Rattle.farm_types.specs.declared.dispatch.Rank.{Rank}
use Rattle.farm_types.specs.declared.rows.JobRow.{JobRow}
use Rattle.farm_types.specs.Dispatch.{rank_cmp}
use Rattle.farm_types.specs.Farm.{Farm, job_at, layers_of}
use Rattle.farm_types.specs.Rising.{IsRising, job_key}
use Rattle.farm_types.specs.declared.states.FrameState.TheVariants as frame_state
use Rattle.farm_types.specs.Booking.{is_pending}
use Rattle.farm_types.specs.Kept.{AreAtPlaces, KeepsJobs, is_pending_job}
use Rattle.farm_types.specs.Step.{lists_of}
use Rattle.farm_types.proofs.Lists.{and_both}
use Rattle.job_book.specs.Book.{count_in}
use Rattle.job_book.specs.Index.{insert_job, by_priority, is_ready}
use Rattle.dispatch_law.specs.ByIndex.{job_cmp, ranks_in_job, ranks_in_show}
use Rattle.dispatch_law.proofs.Found.{filter_has, has_filter}
use Rattle.dispatch_law.proofs.InJob.{IsInJob, in_job, job_strict}
use Rattle.dispatch_law.proofs.Keys.{HasKeys, one_sub, jobs_less, less_is}
use Rattle.dispatch_law.proofs.Strict.{Has, has_none, has_split, has_first, has_later, IsStrict, insert_by, sorted_by, sorted_has, has_sorted, sorted_strict, AreApart, flat_strict, flat_from, flat_has}

-- ---- numbers that rise

-- an item of a rising list has a key from the least on
pub rising_has : {X : Type 0} (key : X → ℕ) (low high : ℕ) (xs : List X) (x : X) → IsRising key low xs high → Has xs x → low ≤ key x
rising_has key low high [] x up h = absurd (has_none x h)
rising_has key low high (y ∷ xs) x up h =
    elim (has_split y x xs h) [
      | inl e ↦ (let same : key y ≡ key x = ap key e in let first = up.0 in omega arith)
      | inr k ↦ (let later = rising_has key (key y + 1) high xs x up.1 k in let first = up.0 in omega arith)
    ]

pub rising_strict : {X : Type 0} (key : X → ℕ) (low high : ℕ) (xs : List X) → IsRising key low xs high → IsStrict (λ x y. nat_cmp (key x) (key y)) xs
rising_strict key low high [] up = tt
rising_strict key low high (x ∷ xs) up =
    (λ y h. let later = rising_has key (key x + 1) high xs y up.1 h in less_is (key x) (key y) (omega arith), rising_strict key (key x + 1) high xs up.1)

filter_by : {X : Type 0} (cmp : X → X → Ordering) (test : X → Bool) (x : X) (xs : List X) (b : Bool) → ((y : X) → Has (filter test xs) y → cmp x y ≡ Less) → IsStrict cmp (filter test xs) → IsStrict cmp (cond b (x ∷ filter test xs) (filter test xs))
filter_by cmp test x xs true first later = (first, later)
filter_by cmp test x xs false first later = later

kept_there : {X : Type 0} (test : X → Bool) (x y : X) (xs : List X) (b : Bool) → Has (cond b (x ∷ filter test xs) (filter test xs)) y → (Has (filter test xs) y → Has xs y) → Has (x ∷ xs) y
kept_there test x y xs true h later = elim (has_split x y (filter test xs) h) [ inl e ↦ subst (Has (x ∷ xs)) e (has_first x xs) | inr k ↦ has_later x y xs (later k) ]
kept_there test x y xs false h later = has_later x y xs (later h)

filter_from : {X : Type 0} (test : X → Bool) (xs : List X) (y : X) → Has (filter test xs) y → Has xs y
filter_from test [] y h = h
filter_from test (x ∷ xs) y h = kept_there test x y xs (test x) h (filter_from test xs y)

pub filter_strict : {X : Type 0} (cmp : X → X → Ordering) (test : X → Bool) (xs : List X) → IsStrict cmp xs → IsStrict cmp (filter test xs)
filter_strict cmp test [] s = tt
filter_strict cmp test (x ∷ xs) s = filter_by cmp test x xs (test x) (λ y h. s.0 y (filter_from test xs y h)) (filter_strict cmp test xs s.1)

-- the item of a key is found
found_by : {X : Type 0} (key : X → ℕ) (x y : X) (xs : List X) (b : Bool) → eqb (key y) (key x) ≡ b → (y ≡ x) ⊎ Has xs x → ((z : X) → Has xs z → nat_cmp (key y) (key z) ≡ Less) → (Has xs x → find (λ z. eqb (key z) (key x)) xs ≡ Some x)
    → cond b (Some y) (find (λ z. eqb (key z) (key x)) xs) ≡ Some x
found_by key x y xs true e (inl same) first later = ap Some same
found_by key x y xs true e (inr h) first later =
    let same = eqb-true (key y) (key x) e in
    let below = ranked (key y) (key x) Less (sym (first x h)) in
    absurd (omega (arith, same, below))
found_by key x y xs false e (inl same) first later = absurd (let ok : eqb (key y) (key x) ≡ true = ap (λ z. eqb (key z) (key x)) same ∙ itself (key x) in false≢true (sym e ∙ ok))
  where
    itself : (n : ℕ) → eqb n n ≡ true
    itself n = grind (arith, nat_tests)
found_by key x y xs false e (inr h) first later = later h

pub rising_found : {X : Type 0} (key : X → ℕ) (xs : List X) (x : X) → IsStrict (λ y z. nat_cmp (key y) (key z)) xs → Has xs x → find (λ z. eqb (key z) (key x)) xs ≡ Some x
rising_found key [] x s h = absurd (has_none x h)
rising_found key (y ∷ xs) x s h = found_by key x y xs (eqb (key y) (key x)) refl (has_split y x xs h) s.0 (rising_found key xs x s.1)

-- ---- jobs by priority

pub job_total : IsTotalOrder job_cmp
job_total = then_total (back_total (on_total (λ (j : JobRow). j.priority) nat_cmp_total)) (on_total (λ (j : JobRow). j.job) nat_cmp_total)

abbrev pub number_cmp : JobRow → JobRow → Ordering
number_cmp a b = nat_cmp a.job b.job

-- where the numbers rise, a job of a lower number comes after another exactly where its priority is less
gt_is : (x y : ℕ) → is_gt (ordering_then (nat_cmp x y) Less) ≡ nat_lt y x
gt_is x y = gt_by (nat_cmp x y) refl
  where
    gt_by : (o : Ordering) → nat_cmp x y ≡ o → is_gt (ordering_then o Less) ≡ nat_lt y x
    gt_by Less e = (let h = ranked x y Less (sym e) in grind (arith, nat_tests))
    gt_by Equal e = (let h = ranked x y Equal (sym e) in grind (arith, nat_tests))
    gt_by Greater e = (let h = ranked x y Greater (sym e) in grind (arith, nat_tests))

after_is : (j k : JobRow) → number_cmp j k ≡ Less → is_gt (job_cmp j k) ≡ nat_lt j.priority k.priority
after_is j k e = ap (λ o. is_gt (ordering_then (nat_cmp k.priority j.priority) o)) e ∙ gt_is k.priority j.priority

insert_same : (j : JobRow) (ks : List JobRow) → ((k : JobRow) → Has ks k → number_cmp j k ≡ Less) → insert_job j ks ≡ insert_by job_cmp j ks
insert_same j [] below = refl
insert_same j (k ∷ ks) below =
    ap (λ b. cond b (k ∷ insert_job j ks) (j ∷ k ∷ ks)) (sym (after_is j k (below k (has_first k ks))))
    ∙ ap (λ rest. cond (is_gt (job_cmp j k)) (k ∷ rest) (j ∷ k ∷ ks)) (insert_same j ks (λ i h. below i (has_later k i ks h)))

pub sorted_same : (js : List JobRow) → IsStrict number_cmp js → by_priority js ≡ sorted_by job_cmp js
sorted_same [] s = refl
sorted_same (j ∷ js) s =
    ap (insert_job j) (sorted_same js s.1) ∙ insert_same j (sorted_by job_cmp js) (λ k h. s.0 k (sorted_has job_cmp js k h))

number_apart : (a b : JobRow) → number_cmp a b ≡ Less → job_cmp a b ≡ Equal → ⊥
number_apart a b less tie = apart_by (nat_cmp b.priority a.priority) (nat_cmp a.job b.job) less tie
  where
    apart_by : (o p : Ordering) → p ≡ Less → ordering_then o p ≡ Equal → ⊥
    apart_by Less p e k = cc
    apart_by Equal p e k = cc
    apart_by Greater p e k = cc

jobs_apart : (js : List JobRow) → IsStrict number_cmp js → AreApart job_cmp js
jobs_apart [] s = tt
jobs_apart (j ∷ js) s = (λ k h. number_apart j k (s.0 k h), jobs_apart js s.1)

-- jobs of rising numbers, by priority, rise
pub priority_strict : (js : List JobRow) → IsStrict number_cmp js → IsStrict job_cmp (by_priority js)
priority_strict js s = subst (IsStrict job_cmp) (sym (sorted_same js s)) (sorted_strict job_cmp job_total js (jobs_apart js s))

pub priority_has : (js : List JobRow) → IsStrict number_cmp js → (j : JobRow) → Has (by_priority js) j → Has js j
priority_has js s j h = sorted_has job_cmp js j (subst (λ ks. Has ks j) (sorted_same js s) h)

pub has_priority : (js : List JobRow) → IsStrict number_cmp js → (j : JobRow) → Has js j → Has (by_priority js) j
has_priority js s j h = subst (λ ks. Has ks j) (sym (sorted_same js s)) (has_sorted job_cmp js j h)

-- ---- the ranks of a show

abbrev pub ready_jobs : Farm → ℕ → List JobRow
ready_jobs f show = by_priority (filter (is_ready (lists_of f) show) f.jobs)

module _ (f : Farm) (host show : ℕ) (kept : KeepsJobs (lists_of f) show) where
  pub jobs_strict : IsStrict number_cmp f.jobs
  jobs_strict = rising_strict job_key 1 f.next_job f.jobs kept.jobs_rise

  pub job_found : (j : JobRow) → Has f.jobs j → job_at f j.job ≡ Some j
  job_found j h = rising_found job_key f.jobs j jobs_strict h

  -- a ready job of a show
  pub record IsReady (wanted : ℕ) (j : JobRow) : Type 0 where
    pub there : Has f.jobs j
    pub show_is : j.show ≡ wanted
    pub pending : is_pending_job j ≡ true

  ready_strict : (wanted : ℕ) → IsStrict number_cmp (filter (is_ready (lists_of f) wanted) f.jobs)
  ready_strict wanted = filter_strict number_cmp (is_ready (lists_of f) wanted) f.jobs jobs_strict

  pub ready_job : (wanted : ℕ) (j : JobRow) → Has (ready_jobs f wanted) j → IsReady wanted j
  ready_job wanted j h =
      let got = has_filter (is_ready (lists_of f) wanted) f.jobs j (priority_has (filter (is_ready (lists_of f) wanted) f.jobs) (ready_strict wanted) j h) in
      let both = and_both (eqb j.show wanted) (is_pending j.state && nat_lt 0 (count_in j.job frame_state.Waiting f.slots)) got.passes in
      record { there = got.there; show_is = eqb-true j.show wanted both.0; pending = (and_both (is_pending j.state) (nat_lt 0 (count_in j.job frame_state.Waiting f.slots)) both.1).0 }

  -- the rank of a frame of the job, which is the rank's
  pub record IsOfJob (j : JobRow) (r : Rank) : Type 0 where
    pub keys : HasKeys f host r
    pub number_is : r.job ≡ j.job
    pub job_is : keys.job ≡ j

  pub of_job : (j : JobRow) (r : Rank) → Has f.jobs j → Has (ranks_in_job f host j.job) r → IsOfJob j r
  of_job j r there h =
      let it = in_job f host j.job r h in
      let keys = it.within.it.keys in
      let number : r.job ≡ j.job = it.within.it.job_is ∙ it.job_is in
      record { keys = keys; number_is = number; job_is = same_Some keys.job j (sym keys.job_is ∙ (ap (job_at f) number ∙ job_found j there)) }

  job_layers : (j : JobRow) → Has f.jobs j → is_pending_job j ≡ true → AreAtPlaces 0 (layers_of f.layers j.job)
  job_layers j there pending = (kept.jobs_layered there.place j there.at pending).places

  -- ranks of two jobs of one show compare as the jobs do
  pub jobs_apart_less : (a b : Rank) (j k : JobRow) → j.show ≡ k.show → IsOfJob j a → IsOfJob k b → job_cmp j k ≡ Less → rank_cmp f a b ≡ Less
  jobs_apart_less a b j k shows x y less =
      let show_same : x.keys.job.show ≡ y.keys.job.show = ap (λ (i : JobRow). i.show) x.job_is ∙ (shows ∙ ap (λ (i : JobRow). i.show) (sym y.job_is)) in
      let first : j.priority ≡ a.priority = ap (λ (i : JobRow). i.priority) (sym x.job_is) ∙ sym x.keys.priority_is in
      let second : k.priority ≡ b.priority = ap (λ (i : JobRow). i.priority) (sym y.job_is) ∙ sym y.keys.priority_is in
      jobs_less f a b (one_sub f host a b x.keys y.keys show_same)
      (sym (ap (λ n. ordering_then (nat_cmp n j.priority) (nat_cmp j.job k.job)) second
      ∙ (ap (λ n. ordering_then (nat_cmp b.priority n) (nat_cmp j.job k.job)) first
      ∙ (ap (λ n. ordering_then (nat_cmp b.priority a.priority) (nat_cmp n k.job)) (sym x.number_is)
      ∙ ap (λ n. ordering_then (nat_cmp b.priority a.priority) (nat_cmp a.job n)) (sym y.number_is)))) ∙ less)

  -- the ranks of a show are those of its ready jobs
  pub show_is_flat : (wanted : ℕ) → ranks_in_show f host wanted ≡ flat_map (λ (j : JobRow). ranks_in_job f host j.job) (ready_jobs f wanted)
  show_is_flat wanted = flat_map-map (ranks_in_job f host) (λ (j : JobRow). j.job) (ready_jobs f wanted)

  pub show_strict : (wanted : ℕ) → IsStrict (rank_cmp f) (ranks_in_show f host wanted)
  show_strict wanted =
      subst (IsStrict (rank_cmp f)) (sym (show_is_flat wanted))
      (flat_strict (rank_cmp f) job_cmp (λ (j : JobRow). ranks_in_job f host j.job) (ready_jobs f wanted) (priority_strict (filter (is_ready (lists_of f) wanted) f.jobs) (ready_strict wanted))
      (λ j h. let ok = ready_job wanted j h in job_strict f host j.job (job_layers j ok.there ok.pending))
      (λ j k jh kh less a b ah bh.
      let x = ready_job wanted j jh in
      let y = ready_job wanted k kh in
      jobs_apart_less a b j k (x.show_is ∙ sym y.show_is) (of_job j a x.there ah) (of_job k b y.there bh) less))

  -- a rank of the show, and its job
  pub record IsInShow (wanted : ℕ) (r : Rank) : Type 0 where
    pub job : JobRow
    pub ready : IsReady wanted job
    pub of_it : IsOfJob job r
    pub within : IsInJob f host job.job r

  pub in_show : (wanted : ℕ) (r : Rank) → Has (ranks_in_show f host wanted) r → IsInShow wanted r
  in_show wanted r h =
      let from = flat_from (λ (j : JobRow). ranks_in_job f host j.job) (ready_jobs f wanted) r (subst (λ rs. Has rs r) (show_is_flat wanted) h) in
      let ok = ready_job wanted from.from from.there in
      record { job = from.from; ready = ok; of_it = of_job from.from r ok.there from.within; within = in_job f host from.from.job r from.within }

  pub show_has : (wanted : ℕ) (j : JobRow) (r : Rank) → Has f.jobs j → is_ready (lists_of f) wanted j ≡ true → Has (ranks_in_job f host j.job) r → Has (ranks_in_show f host wanted) r
  show_has wanted j r there ready h =
      subst (λ rs. Has rs r) (sym (show_is_flat wanted))
      (flat_has (λ (i : JobRow). ranks_in_job f host i.job) (ready_jobs f wanted) j r
      (has_priority (filter (is_ready (lists_of f) wanted) f.jobs) (ready_strict wanted) j (filter_has (is_ready (lists_of f) wanted) f.jobs j there ready)) h)
