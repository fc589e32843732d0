-- The numbers of a section, as the code counts them.
use Rattle.std.proofs.Common.{◌≡◌, ◌≢◌, ℕ, zero, suc, ◌+◌, ◌-◌, ◌/◌, ◌%◌, ◌<◌, ◌≤◌, List, [], ◌∷◌, ◌++◌, length, Bool, true, false, cond, refl, sym, ap, ◌∙◌, arith, true≢false, ⊎_elim}
use Rattle.std.specs.Prelude.{ℤ, pos, negsuc, ◌+ℤ◌, ◌-ℤ◌, unsigned_abs, int_lt, int_le, int_div, not, ◌==◌, Option, Some, None, Result, Ok, Err, ltb, leb}
use Rattle.std.specs.Option.{option_map, is_some}
use Rattle.std.specs.Int.{int_signum}
use Rattle.std.specs.Ordering.{int_eq}
use Rattle.std.specs.List.{flat_map, filter}
use Rattle.std.proofs.lemmas.Int.{ints}
use Rattle.std.proofs.lemmas.Bool.Decides.{Decides-int_eq, Decides-eqb, same_from_decides}
use Rattle.std.proofs.lemmas.Bool.{cases_lt, cases_eq, lt-ltb, le-ltb, le-leb, lt-leb}
use Rattle.std.proofs.Math.Nat.{div-one, div-eq-sub-div, mod-eq_of_lt, mod-eq-sub-mod, lt-div-mul-add}
use Rattle.std.proofs.lemmas.Nat.{div_below}
use Rattle.frame_range.specs.declared.section.Section.TheVariants.{Range, Stepped, Inverse, Interleaved}
use Rattle.frame_range.specs.declared.listing.ListFault.{ListFault}
use Rattle.frame_range.specs.declared.listing.ListFault.TheVariants.{TooMany, NoMemory}
use Rattle.frame_range.specs.Listing.{Lists, Refuses}
use Rattle.frame_range.proofs.RepeatLemmas.{with_all-without_repeats}
use Rattle.frame_range.specs.Away.{stride, away, others_from, halves_from}
use Rattle.frame_range.specs.Places.{has, with_all}
use Rattle.frame_range.specs.Steps.{steps_from, numbers_by, halvings, one_toward, section_numbers}
use Rattle.frame_range.proofs.StepLemmas.{away-zero, away-step}
use Rattle.frame_range.proofs.OtherLemmas.{eqb-no}

pub stride_of : (step : ℤ) → stride (int_lt (pos 0) step) (unsigned_abs step) ≡ step
stride_of (pos zero) = refl
stride_of (pos (suc n)) = ap (λ (up : Bool). stride up (suc n)) (lt-ltb 0 (suc n) (omega arith))
stride_of (negsuc n) = refl

pub size_of : (up : Bool) (n : ℕ) → unsigned_abs (stride up n) ≡ n
size_of true n = refl
size_of false zero = refl
size_of false (suc n) = refl

pub signum_of : (up : Bool) (n : ℕ) → 0 < n → int_signum (stride up n) ≡ stride up 1
signum_of true n some = let one : Prim.Native.Nat.min n 1 ≡ 1 = omega arith in ap pos one
signum_of false zero some = absurd (omega arith)
signum_of false (suc n) some = refl

stride_eq : (up : Bool) (m n : ℕ) → stride up m ≡ stride up n → m ≡ n
stride_eq up m n e = sym (size_of up m) ∙ ap unsigned_abs e ∙ size_of up n

away_eq : (first : ℤ) (up : Bool) (m n : ℕ) → away first up m ≡ away first up n → m ≡ n
away_eq first true m n e = omega (arith, ints)
away_eq first false m n e = omega (arith, ints)

away-test : (first : ℤ) (up : Bool) (m n : ℕ) → int_eq (away first up m) (away first up n) ≡ (m == n)
away-test first up m n = same_from_decides {P = m ≡ n} (int_eq (away first up m) (away first up n)) (m == n)
    ((λ h. away_eq first up m n ((Decides-int_eq (away first up m) (away first up n)).0 h)), (λ e. (Decides-int_eq (away first up m) (away first up n)).1 (ap (away first up) e)))
    (Decides-eqb m n)

-- ---- which numbers are among the steps

past_none : (b : Bool) (p : Option ℕ) → b ≡ false → is_some p ≡ false → is_some (cond b (Some 0) (option_map suc p)) ≡ false
past_none true p h k = absurd (true≢false h)
past_none false None h k = refl
past_none false (Some m) h k = absurd (true≢false k)

first_found : (b : Bool) (p : Option ℕ) → b ≡ true → is_some (cond b (Some 0) (option_map suc p)) ≡ true
first_found true p h = refl
first_found false p h = absurd (true≢false (sym h))

rest_found : (b t : Bool) (p : Option ℕ) → b ≡ false → is_some p ≡ t → is_some (cond b (Some 0) (option_map suc p)) ≡ t
rest_found true t p h k = absurd (true≢false h)
rest_found false t None h k = k
rest_found false t (Some m) h k = k

-- none that is nearer than the first step
nearer_none : (first : ℤ) (up : Bool) (size k j n : ℕ) → k < j → has (steps_from (away first up j) (stride up size) n) (away first up k) ≡ false
nearer_none first up size k j zero near = refl
nearer_none first up size k j (suc n) near =
    past_none (int_eq (away first up k) (away first up j)) _ (away-test first up k j ∙ eqb-no k j (omega arith))
    (ap (λ (z : ℤ). has (steps_from z (stride up size) n) (away first up k)) (away-step first up j size)
    ∙ nearer_none first up size k (j + size) n (omega arith))

-- of those up to the last step, the ones whose distance from the first step is a multiple of the size
multiple_found : (first : ℤ) (up : Bool) (size : ℕ) → 0 < size → (n j t : ℕ) → t / size < n →
    has (steps_from (away first up j) (stride up size) n) (away first up (j + t)) ≡ (t % size == 0)
multiple_found first up size some zero j t within = absurd (omega arith)
multiple_found first up size some (suc n) j t within =
    ⊎_elim
    (λ (none : t ≡ 0).
    first_found (int_eq (away first up (j + t)) (away first up j)) _ (away-test first up (j + t) j ∙ (Decides-eqb (j + t) j).1 (omega arith))
    ∙ sym ((Decides-eqb (t % size) 0).1 (ap (λ (m : ℕ). m % size) none ∙ mod-eq_of_lt some)))
    (λ (not_none : t ≢ 0).
    ⊎_elim
    (λ (near : t < size).
    rest_found (int_eq (away first up (j + t)) (away first up j)) (t % size == 0) _ (away-test first up (j + t) j ∙ eqb-no (j + t) j (omega arith))
    (ap (λ (z : ℤ). has (steps_from z (stride up size) n) (away first up (j + t))) (away-step first up j size)
    ∙ nearer_none first up size (j + t) (j + size) n (omega arith)
    ∙ sym (eqb-no (t % size) 0 (λ e. not_none (sym (mod-eq_of_lt near) ∙ e)))))
    (λ (far : size ≤ t).
    let onward : j + t ≡ (j + size) + (t - size) = omega arith in
    let less : (t - size) / size < n = omega (arith, div-eq-sub-div some far) in
    rest_found (int_eq (away first up (j + t)) (away first up j)) (t % size == 0) _ (away-test first up (j + t) j ∙ eqb-no (j + t) j (omega arith))
    (ap (λ (z : ℤ). has (steps_from z (stride up size) n) (away first up (j + t))) (away-step first up j size)
    ∙ ap (λ (m : ℕ). has (steps_from (away first up (j + size)) (stride up size) n) (away first up m)) onward
    ∙ multiple_found first up size some n (j + size) (t - size) less
    ∙ ap (λ (m : ℕ). m == 0) (sym (mod-eq-sub-mod far))))
    (cases_lt t size))
    (cases_eq t 0)

-- ---- each form of section

ones : (first last : ℤ) (up : Bool) (step : ℤ) → step ≡ stride up 1 →
    numbers_by first last step ≡ steps_from first (stride up 1) (unsigned_abs (first -ℤ last) + 1)
ones first last up step is =
    ap (numbers_by first last) is
    ∙ ap (λ (n : ℕ). steps_from first (stride up 1) (unsigned_abs (first -ℤ last) / n + 1)) (size_of up 1)
    ∙ ap (λ (n : ℕ). steps_from first (stride up 1) (n + 1)) (div-one (unsigned_abs (first -ℤ last)))

others_are : (first : ℤ) (up : Bool) (size : ℕ) (kept : ℤ → Bool) (n offset : ℕ) →
    ((k : ℕ) → offset ≤ k → k < offset + n → kept (away first up k) ≡ not (k % size == 0)) →
    filter kept (steps_from (away first up offset) (stride up 1) n) ≡ others_from first up size offset n
others_are first up size kept zero offset h = refl
others_are first up size kept (suc n) offset h =
    let rest : filter kept (steps_from (away first up offset +ℤ stride up 1) (stride up 1) n) ≡ others_from first up size (offset + 1) n =
    ap (λ (z : ℤ). filter kept (steps_from z (stride up 1) n)) (away-step first up offset 1)
    ∙ others_are first up size kept n (offset + 1) (λ k low high. h k (omega arith) (omega arith)) in
    rw (h offset (omega arith) (omega arith), rest) (not_cond (offset % size == 0) _ _)
  where
    not_cond : (b : Bool) (xs ys : List ℤ) → cond (not b) xs ys ≡ cond b ys xs
    not_cond true xs ys = refl
    not_cond false xs ys = refl

div_below_next : (t n size : ℕ) → 0 < size → t ≤ n → t / size < n / size + 1
div_below_next t n size some low = div_below t size (n / size + 1) some (omega (arith, lt-div-mul-add {a = n} {b = size} some))

pub inverse_is : (first last step : ℤ) (up : Bool) (size span : ℕ) → step ≡ stride up size → 0 < size → span ≡ unsigned_abs (first -ℤ last) →
    filter (λ z. not (has (numbers_by first last step) z)) (numbers_by first last (int_signum step)) ≡ others_from first up size 0 (span + 1)
inverse_is first last step up size span is some far =
    let kept : ℤ → Bool = λ z. not (has (numbers_by first last step) z) in
    let start : first ≡ away first up 0 = sym (away-zero first up) in
    let by : numbers_by first last step ≡ steps_from (away first up 0) (stride up size) (span / size + 1) =
    ap (numbers_by first last) is
    ∙ ap (λ (n : ℕ). steps_from first (stride up size) (unsigned_abs (first -ℤ last) / n + 1)) (size_of up size)
    ∙ ap (λ (n : ℕ). steps_from first (stride up size) (n / size + 1)) (sym far)
    ∙ ap (λ (z : ℤ). steps_from z (stride up size) (span / size + 1)) start in
    ap (filter kept) (ones first last up (int_signum step) (ap int_signum is ∙ signum_of up size some)
    ∙ ap (λ (n : ℕ). steps_from first (stride up 1) (n + 1)) (sym far)
    ∙ ap (λ (z : ℤ). steps_from z (stride up 1) (span + 1)) start)
    ∙ others_are first up size kept (span + 1) 0 (λ k low high.
    ap (λ (l : List ℤ). not (has l (away first up k))) by
    ∙ ap (λ (m : ℕ). not (has (steps_from (away first up 0) (stride up size) (span / size + 1)) (away first up m))) (zero_plus k)
    ∙ ap not (multiple_found first up size some (span / size + 1) 0 k (div_below_next k span size some (omega arith))))
  where
    zero_plus : (k : ℕ) → k ≡ 0 + k
    zero_plus k = omega arith

half_of : (up : Bool) (n : ℕ) → int_div (stride up n) (pos 2) ≡ stride up (n / 2)
half_of true n = refl
half_of false zero = refl
half_of false (suc n) = refl

zero_test : (up : Bool) (n : ℕ) → int_eq (stride up n) (pos 0) ≡ (n == 0)
zero_test up n = same_from_decides {P = n ≡ 0} (int_eq (stride up n) (pos 0)) (n == 0)
    ((λ h. sym (size_of up n) ∙ ap unsigned_abs ((Decides-int_eq (stride up n) (pos 0)).0 h)), (λ e. (Decides-int_eq (stride up n) (pos 0)).1 (ap (stride up) e ∙ none up)))
    (Decides-eqb n 0)
  where
    none : (up : Bool) → stride up 0 ≡ pos 0
    none true = refl
    none false = refl

one_turn : (b d : Bool) (by : ℤ → List ℤ) (step : ℤ) (steps : List ℤ) (now rest : List ℤ) → b ≡ d → by step ≡ now → flat_map by steps ≡ rest →
    flat_map by (elim b [ true ↦ [] | false ↦ step ∷ steps ]) ≡ cond d [] (now ++ rest)
one_turn true true by step steps now rest e f g = refl
one_turn true false by step steps now rest e f g = absurd (true≢false e)
one_turn false true by step steps now rest e f g = absurd (true≢false (sym e))
one_turn false false by step steps now rest e f g = ap (λ (l : List ℤ). l ++ flat_map by steps) f ∙ ap (λ (l : List ℤ). now ++ l) g

pub halves_are : (first last : ℤ) (up : Bool) (span : ℕ) → span ≡ unsigned_abs (first -ℤ last) → (turns size : ℕ) →
    flat_map (numbers_by first last) (halvings turns (stride up size)) ≡ halves_from first up span turns size
halves_are first last up span far zero size = refl
halves_are first last up span far (suc turns) size =
    one_turn (int_eq (stride up size) (pos 0)) (size == 0) (numbers_by first last) (stride up size) (halvings turns (int_div (stride up size) (pos 2))) _ _ (zero_test up size)
    (ap (λ (n : ℕ). steps_from first (stride up size) (unsigned_abs (first -ℤ last) / n + 1)) (size_of up size)
    ∙ ap (λ (n : ℕ). steps_from first (stride up size) (n / size + 1)) (sym far))
    (ap (λ (z : ℤ). flat_map (numbers_by first last) (halvings turns z)) (half_of up size) ∙ halves_are first last up span far turns (size / 2))

toward_nat : (a b : ℕ) → stride (leb a b) 1 ≡ cond (ltb b a) (negsuc 0) (pos 1)
toward_nat a b =
    ⊎_elim
    (λ (below : b < a). rw (lt-leb a b below, lt-ltb b a below) refl)
    (λ (above : a ≤ b). rw (le-leb a b above, le-ltb b a above) refl)
    (cases_lt b a)

toward : (first last : ℤ) → stride (int_le first last) 1 ≡ one_toward first last
toward (pos a) (pos b) = toward_nat a b
toward (pos a) (negsuc b) = refl
toward (negsuc a) (pos b) = refl
toward (negsuc a) (negsuc b) = toward_nat b a

-- ---- what the code lists is what the section has

Refuses_along : (e : ListFault) (old zs ys : List ℤ) → with_all old zs ≡ with_all old ys → Refuses e old zs → Refuses e old ys
Refuses_along TooMany old zs ys so h = omega (arith, h, ap length so)
Refuses_along NoMemory old zs ys so h = tt

Lists_along : (X : Type 0) (r : Result X ListFault) (old zs ys new : List ℤ) → with_all old zs ≡ with_all old ys → Lists old zs r new → Lists old ys r new
Lists_along X (Ok u) old zs ys new so h = (h.0 ∙ so, h.1)
Lists_along X (Err e) old zs ys new so h = Refuses_along e old zs ys so h

pub lists_range : (X : Type 0) (r : Result X ListFault) (old new : List ℤ) (first last : ℤ) (span : ℕ) → span ≡ unsigned_abs (first -ℤ last) →
    Lists old (steps_from first (stride (int_le first last) 1) (span / 1 + 1)) r new → Lists old (section_numbers (Range first last)) r new
unfolding section_numbers
lists_range X r old new first last span far =
    Lists_along X r old (steps_from first (stride (int_le first last) 1) (span / 1 + 1)) (section_numbers (Range first last)) new
    (ap (λ (n : ℕ). with_all old (steps_from first (stride (int_le first last) 1) (n + 1))) (div-one span ∙ far)
    ∙ ap (with_all old) (sym (ones first last (int_le first last) (one_toward first last) (sym (toward first last)))))

pub lists_stepped : (X : Type 0) (r : Result X ListFault) (old new : List ℤ) (first last step : ℤ) (size span : ℕ) → size ≡ unsigned_abs step → span ≡ unsigned_abs (first -ℤ last) →
    Lists old (steps_from first (stride (int_lt (pos 0) step) size) (span / size + 1)) r new → Lists old (section_numbers (Stepped first last step)) r new
unfolding section_numbers
lists_stepped X r old new first last step size span sized far =
    Lists_along X r old (steps_from first (stride (int_lt (pos 0) step) size) (span / size + 1)) (section_numbers (Stepped first last step)) new
    (ap (λ (n : ℕ). with_all old (steps_from first (stride (int_lt (pos 0) step) n) (span / n + 1))) sized
    ∙ ap (λ (n : ℕ). with_all old (steps_from first (stride (int_lt (pos 0) step) (unsigned_abs step)) (n / unsigned_abs step + 1))) far
    ∙ ap (λ (z : ℤ). with_all old (steps_from first z (unsigned_abs (first -ℤ last) / unsigned_abs step + 1))) (stride_of step))

pub lists_inverse : (X : Type 0) (r : Result X ListFault) (old new : List ℤ) (first last step : ℤ) (size span : ℕ) → size ≡ unsigned_abs step → 0 < size → span ≡ unsigned_abs (first -ℤ last) →
    Lists old (others_from first (int_lt (pos 0) step) size 0 (span + 1)) r new → Lists old (section_numbers (Inverse first last step)) r new
unfolding section_numbers
lists_inverse X r old new first last step size span sized some far =
    Lists_along X r old (others_from first (int_lt (pos 0) step) size 0 (span + 1)) (section_numbers (Inverse first last step)) new
    (ap (with_all old) (sym (inverse_is first last step (int_lt (pos 0) step) size span
    (sym (ap (stride (int_lt (pos 0) step)) sized ∙ stride_of step)) some far)))

pub lists_interleaved : (X : Type 0) (r : Result X ListFault) (old new : List ℤ) (first last step : ℤ) (size span : ℕ) → size ≡ unsigned_abs step → span ≡ unsigned_abs (first -ℤ last) →
    Lists old (halves_from first (int_lt (pos 0) step) span size size) r new → Lists old (section_numbers (Interleaved first last step)) r new
unfolding section_numbers
lists_interleaved X r old new first last step size span sized far =
    Lists_along X r old (halves_from first (int_lt (pos 0) step) span size size) (section_numbers (Interleaved first last step)) new
    (ap (λ (n : ℕ). with_all old (halves_from first (int_lt (pos 0) step) span n n)) sized
    ∙ ap (with_all old) (sym (halves_are first last (int_lt (pos 0) step) span far (unsigned_abs step) (unsigned_abs step)))
    ∙ ap (λ (z : ℤ). with_all old (flat_map (numbers_by first last) (halvings (unsigned_abs step) z))) (stride_of step)
    ∙ sym (with_all-without_repeats old (flat_map (numbers_by first last) (halvings (unsigned_abs step) step))))
