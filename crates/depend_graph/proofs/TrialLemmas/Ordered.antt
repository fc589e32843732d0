-- A list in order that has each slot as often as a test says is the list of the slots that pass.
use Rattle.std.proofs.Common.{◌≡◌, ◌≤◌, ◌<◌, ℕ, zero, suc, ◌+◌, Bool, true, false, not, cond, ltb, List, [], ◌∷◌, refl, sym, ap, subst, ◌∙◌, inl, inr, arith}
use Rattle.std.specs.Prelude.{◌&&◌}
use Rattle.std.specs.List.{count_by, filter}
use Rattle.std.specs.List.Sorted.{IsNonDecreasing, IsPermutation}
use Rattle.std.proofs.lemmas.Bool.{cases_lt, eq-eqb, ne_eqb, lt-ltb, le-ltb}
use Rattle.std.proofs.lemmas.List.Sorted.{sum_by-IsPermutation}
use Rattle.farm_types.proofs.Changed.{places}
use Rattle.depend_edges.proofs.Counts.{count_by-cons, one_if}
use Rattle.depend_graph.specs.Graph.{numbers_from}
use Rattle.depend_graph.proofs.ProgressLemmas.Freed.{is_slot}

-- so often stands each slot in the list, where only those from a place on are looked at
abbrev Stands : (ℕ → Bool) → ℕ → List ℕ → Type 0
Stands test from ss = (s : ℕ) → count_by (is_slot s) ss ≡ one_if (test s && not (ltb s from))

head_counts : (x : ℕ) (xs : List ℕ) → 1 ≤ count_by (is_slot x) (x ∷ xs)
head_counts x xs = omega (arith, count_by-cons (is_slot x) x xs, ap one_if (eq-eqb x x refl))

low_none : (test : ℕ → Bool) (from s : ℕ) → s < from → one_if (test s && not (ltb s from)) ≡ 0
low_none test from s low = ap (λ b. one_if (test s && not b)) (lt-ltb s from low) ∙ off (test s) where
  off : (b : Bool) → one_if (b && false) ≡ 0
  off true = refl
  off false = refl

high_by : (test : ℕ → Bool) (from s : ℕ) → from ≤ s → one_if (test s && not (ltb s from)) ≡ one_if (test s)
high_by test from s high = ap (λ b. one_if (test s && not b)) (le-ltb s from high) ∙ kept (test s) where
  kept : (b : Bool) → one_if (b && true) ≡ one_if b
  kept true = refl
  kept false = refl

-- each that stands there is one from the place on
at_least : (test : ℕ → Bool) (from x : ℕ) (xs : List ℕ) → Stands test from (x ∷ xs) → from ≤ x
at_least test from x xs stands =
    elim (cases_lt x from) as (λ c. from ≤ x) [
      | inl low ↦ absurd (omega (arith, head_counts x xs, stands x, low_none test from x low))
      | inr high ↦ high
    ]

-- the first is the least
least : (x : ℕ) (xs : List ℕ) (s : ℕ) → IsNonDecreasing (x ∷ xs) → 1 ≤ count_by (is_slot s) xs → x ≤ s
least x [] s rises some = absurd (omega arith)
least x (y ∷ ys) s rises some =
    elim (places y s) as (λ c. x ≤ s) [
      | inl same ↦ subst (λ (n : ℕ). x ≤ n) same (rises 0 1 x (omega arith) (omega arith))
      | inr apart ↦ least x ys s (skip x y ys rises) (omega (arith, count_by-cons (is_slot s) y ys, ap one_if (ne_eqb y s apart)))
    ]
  where
    skip : (x y : ℕ) (ys : List ℕ) → IsNonDecreasing (x ∷ y ∷ ys) → IsNonDecreasing (x ∷ ys)
    skip x y ys rises zero zero d low within = rises 0 0 d (omega arith) (omega arith)
    skip x y ys rises zero (suc j) d low within = rises 0 (suc (suc j)) d (omega arith) (omega arith)
    skip x y ys rises (suc i) zero d low within = absurd (omega arith)
    skip x y ys rises (suc i) (suc j) d low within = rises (suc (suc i)) (suc (suc j)) d (omega arith) (omega arith)

rest_rises : (x : ℕ) (xs : List ℕ) → IsNonDecreasing (x ∷ xs) → IsNonDecreasing xs
rest_rises x xs rises = λ i j d low within. rises (suc i) (suc j) d (omega arith) (omega arith)

none_left : (test : ℕ → Bool) (from : ℕ) (ss : List ℕ) → Stands test from ss → ((s : ℕ) → from ≤ s → test s ≡ false) → ss ≡ []
none_left test from [] stands none = refl
none_left test from (x ∷ xs) stands none =
    let high = at_least test from x xs stands in
    absurd (omega (arith, head_counts x xs, stands x, high_by test from x high, ap one_if (none x high)))

-- the place itself fails, or stands first
passed_over : (test : ℕ → Bool) (from : ℕ) (ss : List ℕ) → Stands test from ss → test from ≡ false → Stands test (from + 1) ss
passed_over test from ss stands fails = λ s.
    elim (places s from) as (λ c. count_by (is_slot s) ss ≡ one_if (test s && not (ltb s (from + 1)))) [
      | inl same ↦
          stands s
          ∙ (high_by test from s (omega arith)
          ∙ (ap one_if (ap test same ∙ fails) ∙ sym (low_none test (from + 1) s (omega arith))))
      | inr apart ↦
          elim (cases_lt s from) as (λ c. count_by (is_slot s) ss ≡ one_if (test s && not (ltb s (from + 1)))) [
            | inl low ↦ stands s ∙ (low_none test from s low ∙ sym (low_none test (from + 1) s (omega arith)))
            | inr high ↦ stands s ∙ (high_by test from s high ∙ sym (high_by test (from + 1) s (omega (arith, apart))))
          ]
    ]

taken_off : (test : ℕ → Bool) (from : ℕ) (xs : List ℕ) → Stands test from (from ∷ xs) → test from ≡ true → Stands test (from + 1) xs
taken_off test from xs stands passes = λ s.
    elim (places s from) as (λ c. count_by (is_slot s) xs ≡ one_if (test s && not (ltb s (from + 1)))) [
      | inl same ↦
          let all = stands s in
          omega (arith, count_by-cons (is_slot s) from xs, ap one_if (eq-eqb from s (sym same)), high_by test from s (omega arith), ap one_if (ap test same ∙ passes), low_none test (from + 1) s (omega arith))
      | inr apart ↦
          let off = ap one_if (ne_eqb from s (λ e. apart (sym e))) in
          elim (cases_lt s from) as (λ c. count_by (is_slot s) xs ≡ one_if (test s && not (ltb s (from + 1)))) [
            | inl low ↦ omega (arith, count_by-cons (is_slot s) from xs, off, stands s, low_none test from s low, low_none test (from + 1) s (omega arith))
            | inr high ↦ omega (arith, count_by-cons (is_slot s) from xs, off, stands s, high_by test from s high, high_by test (from + 1) s (omega (arith, apart)))
          ]
    ]

first_is : (test : ℕ → Bool) (from : ℕ) (ss : List ℕ) → IsNonDecreasing ss → Stands test from ss → test from ≡ true → (xs : List ℕ) × (ss ≡ from ∷ xs)
first_is test from [] rises stands passes =
    absurd (omega (arith, stands from, high_by test from from (omega arith), ap one_if passes))
first_is test from (x ∷ xs) rises stands passes =
    let high = at_least test from x xs stands in
    let one : count_by (is_slot from) (x ∷ xs) ≡ 1 = omega (arith, stands from, high_by test from from (omega arith), ap one_if passes) in
    elim (places x from) as (λ c. (ys : List ℕ) × (x ∷ xs ≡ from ∷ ys)) [
      | inl same ↦ (xs, ap (λ (n : ℕ). n ∷ xs) same)
      | inr apart ↦
          let low : x ≤ from = least x xs from rises (omega (arith, count_by-cons (is_slot from) x xs, ap one_if (ne_eqb x from apart))) in
          absurd (apart (omega arith))
    ]

filtered : (test : ℕ → Bool) (n : ℕ) (ns : List ℕ) (b : Bool) → test n ≡ b → filter test (n ∷ ns) ≡ cond b (n ∷ filter test ns) (filter test ns)
filtered test n ns b is = ap (λ c. cond c (n ∷ filter test ns) (filter test ns)) is

ordered_from : (test : ℕ → Bool) (count from : ℕ) (ss : List ℕ) → IsNonDecreasing ss → Stands test from ss → ((s : ℕ) → from + count ≤ s → test s ≡ false) → ss ≡ filter test (numbers_from count from)
ordered_from test zero from ss rises stands below = none_left test from ss stands (λ s high. below s (omega arith))
ordered_from test (suc count) from ss rises stands below = by_test (test from) refl (λ xs r st. ordered_from test count (from + 1) xs r st (λ s high. below s (omega arith))) where
  by_test : (b : Bool) → test from ≡ b → ((xs : List ℕ) → IsNonDecreasing xs → Stands test (from + 1) xs → xs ≡ filter test (numbers_from count (from + 1))) → ss ≡ filter test (from ∷ numbers_from count (from + 1))
  by_test true passes more =
      let x = first_is test from ss rises stands passes in
      let rises_too = subst IsNonDecreasing x.1 rises in
      x.1
      ∙ (ap (λ (ns : List ℕ). from ∷ ns) (more x.0 (rest_rises from x.0 rises_too) (taken_off test from x.0 (subst (Stands test from) x.1 stands) passes))
      ∙ sym (filtered test from (numbers_from count (from + 1)) true passes))
  by_test false fails more = more ss rises (passed_over test from ss stands fails) ∙ sym (filtered test from (numbers_from count (from + 1)) false fails)

pub ordered : (test : ℕ → Bool) (count : ℕ) (slots ss : List ℕ) → IsNonDecreasing ss → IsPermutation slots ss → ((s : ℕ) → count_by (is_slot s) slots ≡ one_if (test s)) → ((s : ℕ) → count ≤ s → test s ≡ false)
    → ss ≡ filter test (numbers_from count 0)
ordered test count slots ss rises moved stands below =
    ordered_from test count 0 ss rises
    (λ s. sum_by-IsPermutation (λ n. cond (is_slot s n) 1 0) slots ss moved ∙ (stands s ∙ sym (high_by test 0 s (omega arith))))
    (λ s high. below s (omega arith))
