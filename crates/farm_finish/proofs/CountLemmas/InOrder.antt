-- The jobs that were listed, in the order of their numbers, are those of the jobs' list.
use Rattle.std.proofs.Common.{◌≡◌, ◌≢◌, ◌≤◌, ◌<◌, ℕ, zero, suc, ◌+◌, Bool, true, false, cond, eqb, List, [], ◌∷◌, map, Option, Some, refl, sym, ap, subst, ◌∙◌, ◌⊎◌, inl, inr, arith}
use Rattle.std.specs.Prelude.{All, is_some}
use Rattle.std.specs.List.{AllByRecursion, count_by, filter, find, slice_get}
use Rattle.std.specs.List.Sorted.{IsNonDecreasing, IsPermutation}
use Rattle.std.proofs.lemmas.Bool.{eqb-true, false≢true, ne_eqb}
use Rattle.std.proofs.lemmas.List.Elements.{recursion_from_All}
use Rattle.std.proofs.lemmas.Option.{none-some, same_Some}
use Rattle.farm_types.specs.declared.rows.JobRow.{JobRow}
use Rattle.farm_types.specs.Jobs.{JobLists}
use Rattle.farm_types.specs.Rising.{IsRising, job_key}
use Rattle.farm_types.proofs.Changed.{places}
use Rattle.depend_graph.specs.Graph.{numbers_from}
use Rattle.depend_graph.specs.Trial.{is_at}
use Rattle.depend_graph.proofs.Counts.{count_by-cons, one_if}
use Rattle.depend_graph.proofs.TrialLemmas.Ordered.{ordered}
use Rattle.job_book.specs.Book.{has_job}
use Rattle.farm_finish.specs.Closing.{HasItsJob, ends, ends_by, finished_by, job_in, left_in}
use Rattle.farm_finish.proofs.CountLemmas.CountedDown.{IsCounted}

has_from : (s : ℕ) (jobs : List JobRow) → is_some (find (λ (j : JobRow). eqb j.job s) jobs) ≡ true → (n : ℕ) × (j : JobRow) × (slice_get jobs n ≡ Some j) × (j.job ≡ s)
has_from s [] there = absurd (false≢true there)
has_from s (j ∷ js) there = by_test (eqb j.job s) refl (has_from s js) where
  by_test : (b : Bool) → eqb j.job s ≡ b → (is_some (find (λ (i : JobRow). eqb i.job s) js) ≡ true → (n : ℕ) × (i : JobRow) × (slice_get js n ≡ Some i) × (i.job ≡ s)) → (n : ℕ) × (i : JobRow) × (slice_get (j ∷ js) n ≡ Some i) × (i.job ≡ s)
  by_test true is later = (0, j, refl, eqb-true j.job s is)
  by_test false is later =
      let rest = later (sym (ap (λ (b : Bool). is_some (cond b (Some j) (find (λ (i : JobRow). eqb i.job s) js))) is) ∙ there) in
      (suc rest.0, rest.1, rest.2, rest.3)

-- numbers rise from the first one on
rises_to : (low : ℕ) (jobs : List JobRow) (high : ℕ) → IsRising job_key low jobs high → low ≤ high
rises_to low [] high rise = rise
rises_to low (j ∷ js) high rise = omega (arith, rise.0, rises_to (j.job + 1) js high rise.1)

pub from_low : (low : ℕ) (jobs : List JobRow) (high n : ℕ) (j : JobRow) → IsRising job_key low jobs high → slice_get jobs n ≡ Some j → low ≤ j.job
from_low low [] high n j rise at = absurd (none-some j at)
from_low low (x ∷ xs) high zero j rise at = omega (arith, rise.0, ap job_key (same_Some x j at))
from_low low (x ∷ xs) high (suc n) j rise at = omega (arith, rise.0, from_low (x.job + 1) xs high n j rise.1 at)

to_high : (low : ℕ) (jobs : List JobRow) (high n : ℕ) (j : JobRow) → IsRising job_key low jobs high → slice_get jobs n ≡ Some j → j.job < high
to_high low [] high n j rise at = absurd (none-some j at)
to_high low (x ∷ xs) high zero j rise at = omega (arith, rises_to (x.job + 1) xs high rise.1, ap job_key (same_Some x j at))
to_high low (x ∷ xs) high (suc n) j rise at = to_high (x.job + 1) xs high n j rise.1 at

module _ (test : ℕ → Bool) where
  abbrev passing : JobRow → Bool
  passing j = test j.job

  off : (low : ℕ) (ns : List ℕ) → test low ≡ false → filter test (low ∷ ns) ≡ filter test ns
  off low ns is = ap (λ (b : Bool). cond b (low ∷ filter test ns) (filter test ns)) is

  not_true : (b : Bool) → (b ≡ true → ⊥) → b ≡ false
  not_true true h = absurd (h refl)
  not_true false h = refl

  in_order : (count low : ℕ) (jobs : List JobRow) (high : ℕ) → low + count ≡ high → IsRising job_key low jobs high
      → ((s : ℕ) → low ≤ s → test s ≡ true → (n : ℕ) × (j : JobRow) × (slice_get jobs n ≡ Some j) × (j.job ≡ s))
      → filter test (numbers_from count low) ≡ map (λ (j : JobRow). j.job) (filter passing jobs)
  in_order zero low [] high is rise there = refl
  in_order zero low (j ∷ js) high is rise there = absurd (omega (arith, is, rise.0, rises_to (j.job + 1) js high rise.1))
  in_order (suc count) low [] high is rise there =
      off low (numbers_from count (low + 1)) (not_true (test low) (λ h. let x = there low (omega arith) h in none-some x.1 x.2))
      ∙ in_order count (low + 1) [] high (omega (arith, is)) (omega (arith, is)) (λ s above h. there s (omega (arith, above)) h)
  in_order (suc count) low (j ∷ js) high is rise there = by_place (places j.job low) (in_order count (low + 1) (j ∷ js) high (omega (arith, is))) (in_order count (low + 1) js high (omega (arith, is))) where
    by_place : (j.job ≡ low) ⊎ (j.job ≢ low)
        → (IsRising job_key (low + 1) (j ∷ js) high → ((s : ℕ) → low + 1 ≤ s → test s ≡ true → (n : ℕ) × (i : JobRow) × (slice_get (j ∷ js) n ≡ Some i) × (i.job ≡ s)) → filter test (numbers_from count (low + 1)) ≡ map (λ (i : JobRow). i.job) (filter passing (j ∷ js)))
        → (IsRising job_key (low + 1) js high → ((s : ℕ) → low + 1 ≤ s → test s ≡ true → (n : ℕ) × (i : JobRow) × (slice_get js n ≡ Some i) × (i.job ≡ s)) → filter test (numbers_from count (low + 1)) ≡ map (λ (i : JobRow). i.job) (filter passing js))
        → filter test (low ∷ numbers_from count (low + 1)) ≡ map (λ (i : JobRow). i.job) (filter passing (j ∷ js))
    by_place (inr apart) whole rest =
        off low (numbers_from count (low + 1))
        (not_true (test low) (λ h. let x = there low (omega arith) h in let less = from_low j.job (j ∷ js) high x.0 x.1 (omega arith, rise.1) x.2 in apart (omega (arith, less, x.3, rise.0))))
        ∙ whole (omega (arith, rise.0, apart), rise.1) (λ s above h. there s (omega (arith, above)) h)
    by_place (inl same) whole rest = by_test (test low) refl where
      later : filter test (numbers_from count (low + 1)) ≡ map (λ (i : JobRow). i.job) (filter passing js)
      later = rest (subst (λ (n : ℕ). IsRising job_key (n + 1) js high) same rise.1) (λ s above h. past s above (there s (omega (arith, above)) h)) where
        past : (s : ℕ) → low + 1 ≤ s → ((n : ℕ) × (i : JobRow) × (slice_get (j ∷ js) n ≡ Some i) × (i.job ≡ s)) → (n : ℕ) × (i : JobRow) × (slice_get js n ≡ Some i) × (i.job ≡ s)
        past s above x = split x.0 x.1 x.2 x.3 where
          split : (n : ℕ) (i : JobRow) → slice_get (j ∷ js) n ≡ Some i → i.job ≡ s → (m : ℕ) × (k : JobRow) × (slice_get js m ≡ Some k) × (k.job ≡ s)
          split zero i at is_s = absurd (omega (arith, above, same, is_s, ap job_key (same_Some j i at)))
          split (suc m) i at is_s = (m, i, at, is_s)

      head : test j.job ≡ test low
      head = ap test same

      by_test : (b : Bool) → test low ≡ b → filter test (low ∷ numbers_from count (low + 1)) ≡ map (λ (i : JobRow). i.job) (filter passing (j ∷ js))
      by_test true passes =
          ap (λ (b : Bool). cond b (low ∷ filter test (numbers_from count (low + 1))) (filter test (numbers_from count (low + 1)))) passes
          ∙ ((λ i. sym same i ∷ later i) ∙ sym (ap (λ (b : Bool). map (λ (i : JobRow). i.job) (cond b (j ∷ filter passing js) (filter passing js))) (head ∙ passes)))
      by_test false fails =
          ap (λ (b : Bool). cond b (low ∷ filter test (numbers_from count (low + 1))) (filter test (numbers_from count (low + 1)))) fails
          ∙ (later ∙ sym (ap (λ (b : Bool). map (λ (i : JobRow). i.job) (cond b (j ∷ filter passing js) (filter passing js))) (head ∙ fails)))

-- a job of which frames are done is there
counted_there : (b : JobLists) (s : ℕ) (done : List ℕ) → AllByRecursion (HasItsJob b) done → 1 ≤ count_by (is_at s) (map (job_in b.slots) done) → has_job b s ≡ true
counted_there b s [] all some = absurd (omega (arith, some))
counted_there b s (n ∷ ns) all some =
    elim (places (job_in b.slots n) s) as (λ c. has_job b s ≡ true) [
      | inl same ↦ subst (λ (job : ℕ). has_job b job ≡ true) same all.0.owned
      | inr apart ↦ counted_there b s ns all.1 (omega (arith, some, count_by-cons (is_at s) (job_in b.slots n) (map (job_in b.slots) ns), ap one_if (ne_eqb (job_in b.slots n) s apart)))
    ]

some_ended : (left more : ℕ) → ends_by left more ≡ true → 1 ≤ more
some_ended left more h = grind arith

pub in_order_is : (b : JobLists) (done : List ℕ) (over : ℕ → Option ℕ) (jobs ss : List ℕ) → IsRising job_key 1 b.jobs b.next_job → All (HasItsJob b) done
    → IsCounted (λ job. left_in job b.slots) (map (job_in b.slots) done) over jobs → IsNonDecreasing ss → IsPermutation jobs ss → ss ≡ finished_by b done
in_order_is b done over jobs ss rise framed counted rises moved =
    ordered (ends b.slots done) b.next_job jobs ss rises moved counted.listed past
    ∙ in_order (ends b.slots done) b.next_job 0 b.jobs b.next_job (omega arith) (lower b.jobs rise) (λ s above h. there s h)
  where
    there : (s : ℕ) → ends b.slots done s ≡ true → (n : ℕ) × (j : JobRow) × (slice_get b.jobs n ≡ Some j) × (j.job ≡ s)
    there s h = has_from s b.jobs (counted_there b s done (recursion_from_All (HasItsJob b) done framed) (some_ended (left_in s b.slots) (count_by (is_at s) (map (job_in b.slots) done)) h))

    past : (s : ℕ) → b.next_job ≤ s → ends b.slots done s ≡ false
    past s high = not_so (ends b.slots done s) (λ h. let x = there s h in omega (arith, high, to_high 1 b.jobs b.next_job x.0 x.1 rise x.2, x.3)) where
      not_so : (c : Bool) → (c ≡ true → ⊥) → c ≡ false
      not_so true h = absurd (h refl)
      not_so false h = refl

    lower : (js : List JobRow) → IsRising job_key 1 js b.next_job → IsRising job_key 0 js b.next_job
    lower [] r = omega arith
    lower (j ∷ js) r = (omega arith, r.1)
