-- The keys of jobs whose rows are given, in order.
use Rattle.std.proofs.Common.{◌≡◌, ℕ, zero, suc, ◌+◌, ◌-◌, ◌*◌, ◌<◌, ◌&&◌, ◌||◌, Bool, true, false, cond, eqb, ltb, List, [], ◌∷◌, ◌++◌, length, map, filter, Some, refl, sym, ap, ◌∙◌, append_assoc, arith}
use Rattle.std.specs.List.{list_all, list_any, slice_get}
use Rattle.std.proofs.lemmas.Bool.{eq-eqb, ne_eqb, ltb-true}
use Rattle.std.proofs.lemmas.Option.{none-some, same_Some}
use Rattle.farm_types.specs.declared.limits.TheConstants.{MOST_PRIORITY}
use Rattle.farm_types.specs.declared.rows.JobRow.{JobRow}
use Rattle.farm_types.specs.declared.slot_row.SlotRow.{SlotRow}
use Rattle.farm_types.specs.Booking.{is_pending}
use Rattle.farm_types.specs.Finish.{is_finished}
use Rattle.farm_types.specs.Rising.{IsRising, job_key}
use Rattle.farm_types.specs.Farm.{changed_at}
use Rattle.farm_types.proofs.Changed.{changed_at_each, length-changed_at}
use Rattle.farm_types.proofs.Lists.{and_both}
use Rattle.job_entries.specs.declared.counts.Counts.{Counts}
use Rattle.job_index.specs.declared.ready_jobs.TheConstants.{JOB_NUMBERS}
use Rattle.job_book.specs.Finished.{finish_key, has_finish}
use Rattle.job_book.specs.Inside.{counts_for}
use Rattle.job_book.specs.Ready.{is_ready_in, ready_key}
use Rattle.job_index.specs.Keys.{sorted, AreKeys}
use Rattle.job_book.specs.Restored.{is_ready_by, keys_beside, with_ready}
use Rattle.job_book.proofs.PlacementLemmas.Placed.{rising_within}
use Rattle.job_book.proofs.ReadyLists.{keys_apart}

-- ---- keys of jobs

module _ (key : JobRow → ℕ) (high_part : JobRow → ℕ) (made : (j : JobRow) → key j ≡ high_part j * JOB_NUMBERS + j.job) where
  -- a job of another number has another key
  none_later : (keep : JobRow → Bool) (job : JobRow) (low : ℕ) (js : List JobRow) → job.job < low → IsRising job_key low js JOB_NUMBERS
      → list_any (λ (n : ℕ). eqb n (key job)) (map key (filter keep js)) ≡ false
  none_later keep job low [] below rise = refl
  none_later keep job low (j ∷ js) below rise = by (keep j) (none_later keep job (j.job + 1) js (omega (arith, below, rise.0)) rise.1)
    where
      by : (b : Bool) → list_any (λ (n : ℕ). eqb n (key job)) (map key (filter keep js)) ≡ false → list_any (λ (n : ℕ). eqb n (key job)) (map key (cond b (j ∷ filter keep js) (filter keep js))) ≡ false
      by false later = later
      by true later =
          let less = rising_within job_key (j.job + 1) js JOB_NUMBERS rise.1 in
          let apart : eqb (key j) (key job) ≡ false =
          ne_eqb (key j) (key job) (λ e. keys_apart (high_part j) (high_part job) j.job job.job (omega (arith, less)) (omega (arith, less, below, rise.0)) (λ same. absurd (omega (arith, same, below, rise.0))) (sym (made j) ∙ e ∙ made job)) in
          ap (λ b. b || list_any (λ (n : ℕ). eqb n (key job)) (map key (filter keep js))) apart ∙ later

  pub are_keys : (keep test : JobRow → Bool) → ((j : JobRow) → test j ≡ true → j.job < JOB_NUMBERS → key j < 18446744073709551616) → (low : ℕ) (js : List JobRow) → list_all test js ≡ true → IsRising job_key low js JOB_NUMBERS → AreKeys (map key (filter keep js))
  are_keys keep test word low [] all rise = record {}
  are_keys keep test word low (j ∷ js) all rise = by (keep j) (are_keys keep test word (j.job + 1) js (and_both (test j) (list_all test js) all).1 rise.1)
    where
      by : (b : Bool) → AreKeys (map key (filter keep js)) → AreKeys (map key (cond b (j ∷ filter keep js) (filter keep js)))
      by false later = later
      by true later =
          let less = rising_within job_key (j.job + 1) js JOB_NUMBERS rise.1 in
          (word j (and_both (test j) (list_all test js) all).0 (omega (arith, less)), none_later keep j (j.job + 1) js (omega arith) rise.1, later)

pub finished_differ : (js : List JobRow) → list_all has_finish js ≡ true → IsRising job_key 0 js JOB_NUMBERS → AreKeys (map finish_key (filter is_finished js))
finished_differ js within rise =
    are_keys finish_key (λ j. j.finish) (λ j. refl) is_finished has_finish (λ j has below. omega (arith, ltb-true j.finish JOB_NUMBERS has, below)) 0 js within rise

-- ---- ready jobs by the counts beside them

-- whether the job of a place is ready cannot be told of the job alone, so the keys are compared by their jobs' numbers
module _ (show : ℕ) where
  beside_none : (job : JobRow) (low : ℕ) (js : List JobRow) (cs : List Counts) → job.job < low → IsRising job_key low js JOB_NUMBERS → list_any (λ (n : ℕ). eqb n (ready_key job)) (keys_beside show js cs) ≡ false
  beside_none job low [] cs below rise = refl
  beside_none job low (j ∷ js) [] below rise = refl
  beside_none job low (j ∷ js) (c ∷ cs) below rise = by (is_ready_by show j c) (beside_none job (j.job + 1) js cs (omega (arith, below, rise.0)) rise.1)
    where
      by : (b : Bool) → list_any (λ (n : ℕ). eqb n (ready_key job)) (keys_beside show js cs) ≡ false → list_any (λ (n : ℕ). eqb n (ready_key job)) (cond b (ready_key j ∷ keys_beside show js cs) (keys_beside show js cs)) ≡ false
      by false later = later
      by true later =
          let less = rising_within job_key (j.job + 1) js JOB_NUMBERS rise.1 in
          let apart : eqb (ready_key j) (ready_key job) ≡ false =
          ne_eqb (ready_key j) (ready_key job) (λ e. keys_apart (MOST_PRIORITY - j.priority) (MOST_PRIORITY - job.priority) j.job job.job (omega (arith, less)) (omega (arith, less, below, rise.0)) (λ same. absurd (omega (arith, same, below, rise.0))) e) in
          ap (λ b. b || list_any (λ (n : ℕ). eqb n (ready_key job)) (keys_beside show js cs)) apart ∙ later

  pub beside_differ : (low : ℕ) (js : List JobRow) (cs : List Counts) → IsRising job_key low js JOB_NUMBERS → AreKeys (keys_beside show js cs)
  beside_differ low [] cs rise = record {}
  beside_differ low (j ∷ js) [] rise = record {}
  beside_differ low (j ∷ js) (c ∷ cs) rise = by (is_ready_by show j c) (beside_differ (j.job + 1) js cs rise.1)
    where
      by : (b : Bool) → AreKeys (keys_beside show js cs) → AreKeys (cond b (ready_key j ∷ keys_beside show js cs) (keys_beside show js cs))
      by false later = later
      by true later =
          let less = rising_within job_key (j.job + 1) js JOB_NUMBERS rise.1 in
          (omega (arith, less), beside_none j (j.job + 1) js cs (omega arith) rise.1, later)

  -- where the counts are those of the slots, they are the keys of the ready jobs
  pub beside_is : (slots : List SlotRow) (js : List JobRow) → keys_beside show js (counts_for js slots) ≡ map ready_key (filter (is_ready_in slots show) js)
  beside_is slots [] = refl
  beside_is slots (j ∷ js) = by (is_ready_in slots show j) (beside_is slots js)
    where
      by : (b : Bool) → keys_beside show js (counts_for js slots) ≡ map ready_key (filter (is_ready_in slots show) js)
          → cond b (ready_key j ∷ keys_beside show js (counts_for js slots)) (keys_beside show js (counts_for js slots)) ≡ map ready_key (cond b (j ∷ filter (is_ready_in slots show) js) (filter (is_ready_in slots show) js))
      by true later = ap (λ (ns : List ℕ). ready_key j ∷ ns) later
      by false later = later

-- ---- the lists of all shows, one job after another

pub length_ready : (j : JobRow) (c : Counts) (lists : List (List ℕ)) → length (with_ready j c lists) ≡ length lists
length_ready j c lists = by (is_pending j.state && ltb 0 c.waiting)
  where
    by : (b : Bool) → length (cond b (changed_at lists j.show (λ (ks : List ℕ). ks ++ ready_key j ∷ [])) lists) ≡ length lists
    by true = length-changed_at lists j.show (λ (ks : List ℕ). ks ++ ready_key j ∷ [])
    by false = refl

module _ (j : JobRow) (js : List JobRow) (c : Counts) (cs : List Counts) (lists : List (List ℕ)) (all : ℕ → List ℕ)
    (had : (show : ℕ) (ks : List ℕ) → slice_get lists show ≡ Some ks → ks ++ keys_beside show (j ∷ js) (c ∷ cs) ≡ all show) where
  -- a job more
  pub ready_step : (show : ℕ) (ks : List ℕ) → slice_get (with_ready j c lists) show ≡ Some ks → ks ++ keys_beside show js cs ≡ all show
  ready_step = by (is_pending j.state && ltb 0 c.waiting) refl
    where
      idle_of : (a : Bool) → (a && false) ≡ false
      idle_of true = refl
      idle_of false = refl

      by : (b : Bool) → (is_pending j.state && ltb 0 c.waiting) ≡ b → (show : ℕ) (ks : List ℕ) → slice_get (cond b (changed_at lists j.show (λ (ns : List ℕ). ns ++ ready_key j ∷ [])) lists) show ≡ Some ks → ks ++ keys_beside show js cs ≡ all show
      by false is show ks at =
          let idle : is_ready_by show j c ≡ false = ap (λ d. eqb j.show show && d) is ∙ idle_of (eqb j.show show) in
          sym (ap (λ d. ks ++ cond d (ready_key j ∷ keys_beside show js cs) (keys_beside show js cs)) idle) ∙ had show ks at
      by true is show ks at =
          changed_at_each (λ (m : ℕ) (ns : List ℕ). ns ++ keys_beside m js cs ≡ all m) lists j.show (λ (ns : List ℕ). ns ++ ready_key j ∷ [])
          (λ ns there.
          let busy : is_ready_by j.show j c ≡ true = ap (λ d. d && (is_pending j.state && ltb 0 c.waiting)) (eq-eqb j.show j.show refl) ∙ is in
          append_assoc ns (ready_key j ∷ []) (keys_beside j.show js cs) ∙ sym (ap (λ d. ns ++ cond d (ready_key j ∷ keys_beside j.show js cs) (keys_beside j.show js cs)) busy) ∙ had j.show ns there)
          (λ m ns apart there.
          let idle : is_ready_by m j c ≡ false = ap (λ d. d && (is_pending j.state && ltb 0 c.waiting)) (ne_eqb j.show m (λ e. apart (sym e))) in
          sym (ap (λ d. ns ++ cond d (ready_key j ∷ keys_beside m js cs) (keys_beside m js cs)) idle) ∙ had m ns there)
          show ks at

-- the lists in order
pub sorted_at : (lists : List (List ℕ)) (show : ℕ) (ks : List ℕ) → slice_get (map sorted lists) show ≡ Some ks → (ns : List ℕ) × (slice_get lists show ≡ Some ns) × (ks ≡ sorted ns)
sorted_at [] show ks at = absurd (none-some ks at)
sorted_at (ns ∷ rest) zero ks at = (ns, refl, sym (same_Some (sorted ns) ks at))
sorted_at (ns ∷ rest) (suc show) ks at = sorted_at rest show ks at
