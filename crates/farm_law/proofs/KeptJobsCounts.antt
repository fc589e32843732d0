-- How many slots have the frame at a position of a layer: at most one where each frame stands once, and one at least where it is there.
use Rattle.std.proofs.Common.{◌≡◌, ℕ, suc, zero, ◌+◌, ◌≤◌, Bool, true, false, cond, eqb, ◌&&◌, List, [], ◌∷◌, Option, Some, refl, sym, ap, subst, ◌∙◌, arith}
use Rattle.std.specs.List.{slice_get, sum_by}
use Rattle.std.specs.Option.{is_some}
use Rattle.std.specs.Cmp.Derive.{both_true}
use Rattle.std.proofs.lemmas.Bool.{eqb-true, eq-eqb, false≢true}
use Rattle.std.proofs.lemmas.List.Sums.{sum_by-cons, get_or-le-sum_by}
use Rattle.std.proofs.lemmas.Option.{none-some, same_Some, slice_get_within, get_or_from_slice_get}
use Rattle.farm_types.specs.declared.slot_row.Frame.{Frame}
use Rattle.farm_types.specs.declared.slot_row.SlotRow.{SlotRow}
use Rattle.farm_types.specs.Farm.{for_some, is_placed, slot_from}
use Rattle.farm_types.specs.Kept.{EachOnce, is_same_place}
use Rattle.farm_types.proofs.Lists.{and_both, for_some_true}
use Rattle.farm_types.proofs.ListSums.{sum_by-each_zero}
use Rattle.farm_types.proofs.Passes.{for_some-there}

-- ---- sums

-- an item weighs at most the sum
pub weight_within : {X : Type 0} (weight : X → ℕ) (xs : List X) (i : ℕ) (x : X) → slice_get xs i ≡ Some x → weight x ≤ sum_by weight xs
weight_within weight xs i x at =
    let least = get_or-le-sum_by weight xs i x (slice_get_within xs i x at) in
    rw (get_or_from_slice_get xs i x x at) at least

-- where the sum is 1 at most, two items that weigh something are one
lone : {X : Type 0} (weight : X → ℕ) (xs : List X) (i k : ℕ) (x y : X) → sum_by weight xs ≤ 1 → slice_get xs i ≡ Some x → slice_get xs k ≡ Some y → 1 ≤ weight x → 1 ≤ weight y → i ≡ k
lone weight [] i k x y most at_i at_k wx wy = absurd (none-some x at_i)
lone weight (z ∷ zs) zero zero x y most at_i at_k wx wy = refl
lone weight (z ∷ zs) zero (suc k) x y most at_i at_k wx wy =
    let first = subst (λ v. 1 ≤ weight v) (sym (same_Some z x at_i)) wx in
    absurd (omega (arith, sum_by-cons weight z zs, weight_within weight zs k y at_k, first))
lone weight (z ∷ zs) (suc i) zero x y most at_i at_k wx wy =
    let first = subst (λ v. 1 ≤ weight v) (sym (same_Some z y at_k)) wy in
    absurd (omega (arith, sum_by-cons weight z zs, weight_within weight zs i x at_i, first))
lone weight (z ∷ zs) (suc i) (suc k) x y most at_i at_k wx wy =
    ap suc (lone weight zs i k x y (omega (arith, sum_by-cons weight z zs)) at_i at_k wx wy)

-- ---- slots with the frame at a position

-- 1 where the frame is at that position
abbrev pub counts_frame : ℕ → ℕ → ℕ → Option Frame → ℕ
counts_frame job layer position frame = cond (for_some frame (is_placed job layer position)) 1 0

-- how many slots have it
abbrev pub count_at : ℕ → ℕ → ℕ → List SlotRow → ℕ
count_at job layer position slots = sum_by (λ (s : SlotRow). counts_frame job layer position s.frame) slots

-- the frame is of that job, layer and position
pub record StandsAt (job layer position : ℕ) (x : Frame) : Type 0 where
  pub job_is : x.job ≡ job
  pub layer_is : x.layer ≡ layer
  pub position_is : x.position ≡ position

-- what the test says
pub stands_at : (job layer position : ℕ) (x : Frame) → is_placed job layer position x ≡ true → StandsAt job layer position x
stands_at job layer position x h =
    let both = and_both (eqb x.job job && eqb x.layer layer) (eqb x.position position) h in
    let first = and_both (eqb x.job job) (eqb x.layer layer) both.0 in
    record { job_is = eqb-true x.job job first.0; layer_is = eqb-true x.layer layer first.1; position_is = eqb-true x.position position both.1 }

pub at_stands : (job layer position : ℕ) (x : Frame) → StandsAt job layer position x → is_placed job layer position x ≡ true
at_stands job layer position x h = both_true (both_true (eq-eqb x.job job h.job_is) (eq-eqb x.layer layer h.layer_is)) (eq-eqb x.position position h.position_is)

-- two frames of one position
same_place : (job layer position : ℕ) (x y : Frame) → is_placed job layer position x ≡ true → is_placed job layer position y ≡ true → is_same_place x y ≡ true
same_place job layer position x y hx hy =
    let a = stands_at job layer position x hx in
    let b = stands_at job layer position y hy in
    at_stands x.job x.layer x.position y (record { job_is = b.job_is ∙ sym a.job_is; layer_is = b.layer_is ∙ sym a.layer_is; position_is = b.position_is ∙ sym a.position_is })

-- a frame that passes is counted
counted : (frame : Option Frame) (test : Frame → Bool) (x : Frame) → frame ≡ Some x → test x ≡ true → 1 ≤ cond (for_some frame test) 1 0
counted frame test x is passes = rw (for_some-there frame test x is passes) (omega arith)

-- where no position is counted twice, each frame stands once
pub once_from_count : (slots : List SlotRow) → ((job layer position : ℕ) → count_at job layer position slots ≤ 1) → EachOnce slots
once_from_count slots most i k s t x y at_i is_x at_k is_y same =
    let itself = at_stands x.job x.layer x.position x (record { job_is = refl; layer_is = refl; position_is = refl }) in
    lone (λ (r : SlotRow). counts_frame x.job x.layer x.position r.frame) slots i k s t (most x.job x.layer x.position) at_i at_k
    (counted s.frame (is_placed x.job x.layer x.position) x is_x itself)
    (counted t.frame (is_placed x.job x.layer x.position) y is_y same)

-- where the first slot has the frame, no later one does
later_apart : (job layer position : ℕ) (s : SlotRow) (ss : List SlotRow) → EachOnce (s ∷ ss) → for_some s.frame (is_placed job layer position) ≡ true
    → (i : ℕ) (t : SlotRow) → slice_get ss i ≡ Some t → (b : Bool) → for_some t.frame (is_placed job layer position) ≡ b → cond b 1 0 ≡ zero
later_apart job layer position s ss once here i t at false is = refl
later_apart job layer position s ss once here i t at true is =
    let x = for_some_true s.frame (is_placed job layer position) here in
    let y = for_some_true t.frame (is_placed job layer position) is in
    let same = same_place job layer position x.0 y.0 x.2 y.2 in
    let e = once 0 (suc i) s t x.0 y.0 refl x.1 at y.1 same in
    absurd (omega (arith, e))

count_step : (job layer position : ℕ) (s : SlotRow) (ss : List SlotRow) (b : Bool) → for_some s.frame (is_placed job layer position) ≡ b → EachOnce (s ∷ ss)
    → count_at job layer position ss ≤ 1 → count_at job layer position (s ∷ ss) ≤ 1
count_step job layer position s ss false is once rest =
    let e = sum_by-cons (λ (r : SlotRow). counts_frame job layer position r.frame) s ss in
    let w : counts_frame job layer position s.frame ≡ 0 = rw is refl in
    omega (arith, e, w, rest)
count_step job layer position s ss true is once rest =
    let e = sum_by-cons (λ (r : SlotRow). counts_frame job layer position r.frame) s ss in
    let w : counts_frame job layer position s.frame ≡ 1 = rw is refl in
    let none : count_at job layer position ss ≡ 0 =
    sum_by-each_zero (λ (r : SlotRow). counts_frame job layer position r.frame) ss
    (λ i t at. later_apart job layer position s ss once is i t at (for_some t.frame (is_placed job layer position)) refl) in
    omega (arith, e, w, none)

-- where each frame stands once, no position is counted twice
pub count_from_once : (slots : List SlotRow) → EachOnce slots → (job layer position : ℕ) → count_at job layer position slots ≤ 1
count_from_once [] once job layer position = omega arith
count_from_once (s ∷ ss) once job layer position =
    count_step job layer position s ss (for_some s.frame (is_placed job layer position)) refl once
    (count_from_once ss (λ i k r t x y a p b q same. omega (arith, once (suc i) (suc k) r t x y a p b q same)) job layer position)

-- ---- a frame that is there

module _ (test : Frame → Bool) where
  -- how many slots have a frame that passes
  abbrev passing : List SlotRow → ℕ
  passing slots = sum_by (λ (s : SlotRow). cond (for_some s.frame test) 1 0) slots

  there_step : (place : ℕ) (s : SlotRow) (ss : List SlotRow) (b : Bool) → for_some s.frame test ≡ b → (is_some (slot_from (place + 1) test ss) ≡ true → 1 ≤ passing ss)
      → is_some (cond b (Some place) (slot_from (place + 1) test ss)) ≡ true → 1 ≤ passing (s ∷ ss)
  there_step place s ss true is later there =
      let w : ◌≡◌ {A = ℕ} (cond (for_some s.frame test) 1 0) 1 = rw is refl in
      omega (arith, sum_by-cons (λ (r : SlotRow). cond (for_some r.frame test) 1 0) s ss, w)
  there_step place s ss false is later there = omega (arith, sum_by-cons (λ (r : SlotRow). cond (for_some r.frame test) 1 0) s ss, later there)

  -- a slot that is found is counted
  pub there_counts : (place : ℕ) (slots : List SlotRow) → is_some (slot_from place test slots) ≡ true → 1 ≤ passing slots
  there_counts place [] there = absurd (false≢true there)
  there_counts place (s ∷ ss) there =
      there_step place s ss (for_some s.frame test) refl (there_counts (place + 1) ss) there

  count_there_step : (place : ℕ) (s : SlotRow) (ss : List SlotRow) (b : Bool) → for_some s.frame test ≡ b → (1 ≤ passing ss → is_some (slot_from (place + 1) test ss) ≡ true)
      → 1 ≤ passing (s ∷ ss) → is_some (cond b (Some place) (slot_from (place + 1) test ss)) ≡ true
  count_there_step place s ss true is later some = refl
  count_there_step place s ss false is later some =
      let w : ◌≡◌ {A = ℕ} (cond (for_some s.frame test) 1 0) 0 = rw is refl in
      later (omega (arith, sum_by-cons (λ (r : SlotRow). cond (for_some r.frame test) 1 0) s ss, w, some))

  -- where one is counted, one is found
  pub count_there : (place : ℕ) (slots : List SlotRow) → 1 ≤ passing slots → is_some (slot_from place test slots) ≡ true
  count_there place [] some = absurd (omega arith)
  count_there place (s ∷ ss) some =
      count_there_step place s ss (for_some s.frame test) refl (count_there (place + 1) ss) some
