-- The jobs that finish by counts are those of which no frame is left.
use Rattle.std.proofs.Common.{◌≡◌, ◌<◌, ℕ, suc, ◌+◌, Bool, true, false, ◌&&◌, ◌||◌, not, eqb, ltb, nat_eq, List, [], ◌∷◌, length, Option, Some, None, refl, sym, ap, subst, ◌∙◌, arith}
use Rattle.std.proofs.lemmas.Bool.{false≢true, lt-ltb, ltb-true}
use Rattle.std.specs.List.{IsDistinct, count_by, list_any, slice_get}
use Rattle.farm_types.specs.declared.rows.JobRow.{JobRow}
use Rattle.farm_types.specs.declared.slot_row.Frame.{Frame}
use Rattle.farm_types.specs.declared.slot_row.SlotRow.{SlotRow}
use Rattle.farm_types.specs.Booking.{is_pending}
use Rattle.farm_types.specs.Depends.{is_done, is_done_state}
use Rattle.farm_types.specs.Farm.{for_some}
use Rattle.farm_types.specs.Finish.{finishes, is_frame_of}
use Rattle.farm_types.specs.Operators.{is_left_of}
use Rattle.depend_graph.proofs.Counts.{count_by-cons, one_if}
use Rattle.farm_depends.specs.Follow.{is_listed}
use Rattle.farm_finish.specs.Closing.{ends_by, left_in}
use Rattle.farm_finish.proofs.CountLemmas.LeftAfter.{total, total_both, total_listed}

-- ---- totals by place

pub placed_total : (p : ℕ → Bool) (test : SlotRow → Bool) (place : ℕ) (xs ys : List SlotRow) → length xs ≡ length ys → ((k : ℕ) (t : SlotRow) → slice_get ys k ≡ Some t → p (place + k) ≡ test t)
    → total (λ n s. p n) place xs ≡ count_by test ys
placed_total p test place [] [] long each = refl
placed_total p test place [] (y ∷ ys) long each = absurd (omega (arith, long))
placed_total p test place (x ∷ xs) [] long each = absurd (omega (arith, long))
placed_total p test place (x ∷ xs) (y ∷ ys) long each =
    let here : p place ≡ test y = subst (λ (n : ℕ). p n ≡ test y) (omega arith) (each 0 y refl) in
    let later = placed_total p test (place + 1) xs ys (omega (arith, long)) (λ k t at. subst (λ (n : ℕ). p n ≡ test t) (omega arith) (each (suc k) t at)) in
    omega (arith, ap one_if here, later, count_by-cons test y ys)

count_total : (test : SlotRow → Bool) (place : ℕ) (xs : List SlotRow) → total (λ n s. test s) place xs ≡ count_by test xs
count_total test place [] = refl
count_total test place (x ∷ xs) = omega (arith, count_total test (place + 1) xs, count_by-cons test x xs)

-- ---- one slot

frame_left : (job : ℕ) (o : Option Frame) → for_some o (λ (x : Frame). eqb x.job job && not (is_done_state x.state)) ≡ (for_some o (λ (x : Frame). eqb x.job job) && not (for_some o (λ (x : Frame). is_done_state x.state)))
frame_left job None = refl
frame_left job (Some x) = refl

row_left : (job : ℕ) (o : Option SlotRow) → for_some o (is_left_of job) ≡ (for_some o (is_frame_of job) && not (for_some o (λ (s : SlotRow). for_some s.frame (λ (x : Frame). is_done_state x.state))))
row_left job None = refl
row_left job (Some s) = frame_left job s.frame

one_less : (frame was listed : Bool) → (listed ≡ true → was ≡ false) → one_if (frame && not was) ≡ one_if (frame && not (was || listed)) + one_if (frame && listed)
one_less false was listed apart = refl
one_less true true true apart = absurd (false≢true (sym (apart refl)))
one_less true true false apart = refl
one_less true false true apart = refl
one_less true false false apart = refl

-- ---- one job

from_zero : (n : ℕ) → n ≡ 0 + n
from_zero n = omega arith

module _ (olds news : List SlotRow) (done : List ℕ) (long : length olds ≡ length news) (differ : IsDistinct nat_eq done)
    (done_are : (slot : ℕ) → is_done news slot ≡ (is_done olds slot || is_listed done slot)) (undone : (slot : ℕ) → is_listed done slot ≡ true → is_done olds slot ≡ false)
    (job : ℕ) (stands : (slot : ℕ) → for_some (slice_get news slot) (is_frame_of job) ≡ for_some (slice_get olds slot) (is_frame_of job)) where
  abbrev left_at : ℕ → Bool
  left_at n = for_some (slice_get news n) (is_left_of job)

  step : (n : ℕ) (s : SlotRow) → slice_get olds n ≡ Some s → one_if (is_left_of job s) ≡ one_if (left_at n) + one_if (is_frame_of job s && is_listed done n)
  step n s at =
      let old : is_left_of job s ≡ (is_frame_of job s && not (is_done olds n)) =
      ap (λ (o : Option SlotRow). for_some o (is_left_of job)) (sym at) ∙ (row_left job (slice_get olds n) ∙ ap (λ (o : Option SlotRow). for_some o (is_frame_of job) && not (is_done olds n)) at) in
      let new : left_at n ≡ (is_frame_of job s && not (is_done olds n || is_listed done n)) =
      row_left job (slice_get news n) ∙ ((λ i. stands n i && not (done_are n i)) ∙ ap (λ (o : Option SlotRow). for_some o (is_frame_of job) && not (is_done olds n || is_listed done n)) at) in
      ap one_if old ∙ (one_less (is_frame_of job s) (is_done olds n) (is_listed done n) (undone n) ∙ ap (λ (b : Bool). one_if b + one_if (is_frame_of job s && is_listed done n)) (sym new))

  pub left_then : left_in job olds ≡ left_in job news + count_by (λ d. for_some (slice_get olds d) (is_frame_of job)) done
  left_then =
      omega (
        arith,
        count_total (is_left_of job) 0 olds,
        total_both (λ n s. is_left_of job s) (λ n s. left_at n) (λ n s. is_frame_of job s && is_listed done n) 0 olds (λ n s at. subst (λ (k : ℕ). one_if (is_left_of job s) ≡ one_if (left_at k) + one_if (is_frame_of job s && is_listed done k)) (from_zero n) (step n s at)),
        placed_total left_at (is_left_of job) 0 olds news long (λ k t at. subst (λ (n : ℕ). left_at n ≡ is_left_of job t) (from_zero k) (ap (λ (o : Option SlotRow). for_some o (is_left_of job)) at)),
        total_listed (is_frame_of job) done olds differ,
      )

-- ---- whether a job finishes

pub any_left : (test : SlotRow → Bool) (slots : List SlotRow) → list_any test slots ≡ ltb 0 (count_by test slots)
any_left test [] = refl
any_left test (s ∷ ss) = by_test (test s) refl (any_left test ss) where
  by_test : (b : Bool) → test s ≡ b → list_any test ss ≡ ltb 0 (count_by test ss) → (test s || list_any test ss) ≡ ltb 0 (count_by test (s ∷ ss))
  by_test true is rest =
      ap (λ (b : Bool). b || list_any test ss) is ∙ sym (lt-ltb 0 (count_by test (s ∷ ss)) (omega (arith, count_by-cons test s ss, ap one_if is)))
  by_test false is rest =
      ap (λ (b : Bool). b || list_any test ss) is ∙ (rest ∙ ap (ltb 0) (omega (arith, count_by-cons test s ss, ap one_if is)))

-- of a pending job some frame was left
pub ends_pending : (was left more : ℕ) → was ≡ left + more → 0 < was → ends_by was more ≡ not (ltb 0 left)
ends_pending was left more is some = grind arith

-- of a finished one none was
pub ends_finished : (was more : ℕ) → was ≡ 0 → ends_by was more ≡ false
ends_finished was more is = grind arith

pub ends_is : (olds news : List SlotRow) (more : ℕ) (j : JobRow) (b : Bool) → is_pending j.state ≡ b → left_in j.job olds ≡ left_in j.job news + more → not (finishes olds j) ≡ true → (b ≡ false → left_in j.job olds ≡ 0)
    → ends_by (left_in j.job olds) more ≡ finishes news j
ends_is olds news more j true is then works none =
    let was : list_any (is_left_of j.job) olds ≡ true = not_not (list_any (is_left_of j.job) olds) (ap (λ (p : Bool). not (p && not (list_any (is_left_of j.job) olds))) (sym is) ∙ works) in
    let some : 0 < left_in j.job olds = ltb-true 0 (left_in j.job olds) (sym (any_left (is_left_of j.job) olds) ∙ was) in
    ends_pending (left_in j.job olds) (left_in j.job news) more then some
    ∙ sym ((λ i. is i && not (any_left (is_left_of j.job) news i)))
  where
    not_not : (c : Bool) → not (not c) ≡ true → c ≡ true
    not_not true h = refl
    not_not false h = absurd (false≢true h)
ends_is olds news more j false is then works none =
    ends_finished (left_in j.job olds) more (none refl) ∙ sym (ap (λ (p : Bool). p && not (list_any (is_left_of j.job) news)) is)
