-- By counts exactly those jobs finish of which no frame is left.
use Rattle.std.proofs.Common.{◌≡◌, ◌≤◌, ℕ, suc, Bool, true, false, cond, ◌||◌, not, eqb, nat_eq, List, [], ◌∷◌, length, map, Option, Some, None, refl, ap, ◌∙◌, arith}
use Rattle.std.specs.Prelude.{option_and_then}
use Rattle.std.specs.List.{IsDistinct, count_by, filter, list_all, slice_get}
use Rattle.std.proofs.lemmas.Bool.{ne_eqb}
use Rattle.farm_types.specs.declared.rows.JobRow.{JobRow}
use Rattle.farm_types.specs.declared.slot_row.Frame.{Frame}
use Rattle.farm_types.specs.declared.slot_row.SlotRow.{SlotRow}
use Rattle.farm_types.specs.Booking.{is_pending}
use Rattle.farm_types.specs.Depends.{is_done}
use Rattle.farm_types.specs.Farm.{for_some}
use Rattle.farm_types.specs.Finish.{finishes, is_frame_of}
use Rattle.farm_types.specs.Jobs.{JobLists}
use Rattle.farm_types.specs.Rising.{IsRising, job_key}
use Rattle.farm_types.proofs.Lists.{list_all-at}
use Rattle.depend_graph.specs.Trial.{is_at}
use Rattle.depend_graph.proofs.Counts.{count_by-cons, one_if}
use Rattle.farm_depends.specs.Follow.{is_listed}
use Rattle.farm_finish.specs.Closing.{ends, ends_by, finished_by, job_in, job_of, left_in}
use Rattle.farm_finish.proofs.CountLemmas.EndsLaw.{ends_is, left_then}
use Rattle.farm_finish.proofs.CountLemmas.InOrder.{from_low}

frame_job : (job : ℕ) (o : Option Frame) → 1 ≤ job → eqb (job_of o) job ≡ for_some o (λ (x : Frame). eqb x.job job)
frame_job job None from = ne_eqb 0 job (λ e. omega (arith, e, from))
frame_job job (Some x) from = refl

row_job : (job : ℕ) (o : Option SlotRow) → 1 ≤ job → eqb (job_of (option_and_then (λ (s : SlotRow). s.frame) o)) job ≡ for_some o (is_frame_of job)
row_job job None from = frame_job job None from
row_job job (Some s) from = frame_job job s.frame from

times_are : (slots : List SlotRow) (job : ℕ) (done : List ℕ) → 1 ≤ job → count_by (is_at job) (map (job_in slots) done) ≡ count_by (λ d. for_some (slice_get slots d) (is_frame_of job)) done
times_are slots job [] from = refl
times_are slots job (d ∷ ds) from =
    omega (
      arith,
      times_are slots job ds from,
      count_by-cons (is_at job) (job_in slots d) (map (job_in slots) ds),
      count_by-cons (λ m. for_some (slice_get slots m) (is_frame_of job)) d ds,
      ap one_if (row_job job (slice_get slots d) from),
    )

filter_same : (p q : JobRow → Bool) (jobs : List JobRow) → ((n : ℕ) (j : JobRow) → slice_get jobs n ≡ Some j → p j ≡ q j) → filter p jobs ≡ filter q jobs
filter_same p q [] same = refl
filter_same p q (j ∷ js) same =
    let rest = filter_same p q js (λ n. same (suc n)) in
    λ i. cond (same 0 j refl i) (j ∷ rest i) (rest i)

-- `news` are the slots after the entry: frames stand where they stood, and those in the slots named are done that weren't
module _ (b : JobLists) (news : List SlotRow) (done : List ℕ) (long : length b.slots ≡ length news) (differ : IsDistinct nat_eq done)
    (done_are : (slot : ℕ) → is_done news slot ≡ (is_done b.slots slot || is_listed done slot)) (undone : (slot : ℕ) → is_listed done slot ≡ true → is_done b.slots slot ≡ false)
    (stands : (job slot : ℕ) → for_some (slice_get news slot) (is_frame_of job) ≡ for_some (slice_get b.slots slot) (is_frame_of job)) (rise : IsRising job_key 1 b.jobs b.next_job)
    (works : list_all (λ (j : JobRow). not (finishes b.slots j)) b.jobs ≡ true) (none : (n : ℕ) (j : JobRow) → slice_get b.jobs n ≡ Some j → is_pending j.state ≡ false → left_in j.job b.slots ≡ 0) where
  one : (n : ℕ) (j : JobRow) → slice_get b.jobs n ≡ Some j → ends b.slots done j.job ≡ finishes news j
  one n j at =
      let more = count_by (λ d. for_some (slice_get b.slots d) (is_frame_of j.job)) done in
      let then = left_then b.slots news done long differ done_are undone j.job (stands j.job) in
      ap (ends_by (left_in j.job b.slots)) (times_are b.slots j.job done (from_low 1 b.jobs b.next_job n j rise at))
      ∙ ends_is b.slots news more j (is_pending j.state) refl then (list_all-at (λ (i : JobRow). not (finishes b.slots i)) b.jobs n j works at) (none n j at)

  pub finishing_is : finished_by b done ≡ map (λ (j : JobRow). j.job) (filter (finishes news) b.jobs)
  finishing_is = ap (map (λ (j : JobRow). j.job)) (filter_same (λ (j : JobRow). ends b.slots done j.job) (finishes news) b.jobs one)
