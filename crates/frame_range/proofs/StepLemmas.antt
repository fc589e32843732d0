-- Listing numbers one by one: what is listed so far and what is left give what is to be listed.
use Rattle.std.proofs.Common.{◌≡◌, ℕ, ◌+◌, ◌-◌, ◌/◌, ◌<◌, ◌≤◌, List, [], ◌∷◌, ◌++◌, length, Bool, true, false, cond, refl, sym, ap, ◌∙◌, arith, subst, add-one}
use Rattle.std.specs.Prelude.{ℤ, ◌+ℤ◌, Result, Err}
use Rattle.std.proofs.lemmas.Int.{ints}
use Rattle.std.proofs.lemmas.List.{length_push}
use Rattle.std.proofs.Math.Nat.{div-eq-sub-div, div-eq_of_lt}
use Rattle.frame_range.specs.declared.listing.ListFault.{ListFault}
use Rattle.frame_range.specs.declared.listing.ListFault.TheVariants.{TooMany, NoMemory}
use Rattle.frame_range.specs.Away.{away, stride}
use Rattle.frame_range.specs.Places.{has, with_number, with_all}
use Rattle.frame_range.specs.Listing.{Lists, Refuses}
use Rattle.frame_range.specs.Steps.{steps_from}
use Rattle.frame_range.specs.declared.limits.TheConstants.{MOST_NUMBERS}

-- ---- lists with numbers added

length_with : (b : Bool) (xs : List ℤ) (z : ℤ) → length xs ≤ length (cond b xs (xs ++ z ∷ []))
length_with true xs z = omega arith
length_with false xs z = omega (arith, length_push xs z)

pub length-le-with_all : (xs zs : List ℤ) → length xs ≤ length (with_all xs zs)
length-le-with_all xs [] = omega arith
length-le-with_all xs (z ∷ zs) = omega (arith, length_with (has xs z) xs z, length-le-with_all (with_number xs z) zs)

pub with_all-append : (xs ys zs : List ℤ) → with_all xs (ys ++ zs) ≡ with_all (with_all xs ys) zs
with_all-append xs [] zs = refl
with_all-append xs (y ∷ ys) zs = with_all-append (with_number xs y) ys zs

-- ---- what a call of listing leaves for the calls around it

-- numbers that are too many are so with any after them
pub Refuses_more : (e : ListFault) (old now ys zs rest : List ℤ) →
    with_all now (ys ++ rest) ≡ with_all old zs → Refuses e now ys → Refuses e old zs
Refuses_more TooMany old now ys zs rest so h =
    omega (arith, h, length-le-with_all (with_all now ys) rest, ap length (with_all-append now ys rest), ap length so)
Refuses_more NoMemory old now ys zs rest so h = tt

-- the exit by an error
pub Lists_exit : (Y : Type 0) (r : Result Y ListFault) (old zs after : List ℤ) (d e : ListFault) → r ≡ Err d → d ≡ e → Refuses e old zs → Lists old zs r after
Lists_exit Y r old zs after d e p q h = subst (λ (v : Result Y ListFault). Lists old zs v after) (sym (p ∙ ap Err q)) h

-- ---- steps

pub away-zero : (first : ℤ) (up : Bool) → away first up 0 ≡ first
away-zero first true = omega (arith, ints)
away-zero first false = omega (arith, ints)

pub away-step : (first : ℤ) (up : Bool) (a b : ℕ) → away first up a +ℤ stride up b ≡ away first up (a + b)
away-step first true a b = omega (arith, ints)
away-step first false a b = omega (arith, ints)

pub steps_first : (first step : ℤ) (n : ℕ) → steps_from first step (n + 1) ≡ first ∷ steps_from (first +ℤ step) step n
steps_first first step n = rw (add-one n) refl

-- the last step
pub steps_last : (first step : ℤ) (left size : ℕ) → left < size → steps_from first step (left / size + 1) ≡ first ∷ []
steps_last first step left size low =
    let none : left / size ≡ 0 = div-eq_of_lt low in
    rw none refl

-- one step of several
pub steps_more : (first step : ℤ) (left size : ℕ) → 0 < size → size ≤ left →
    steps_from first step (left / size + 1) ≡ first ∷ steps_from (first +ℤ step) step ((left - size) / size + 1)
steps_more first step left size some high = steps_first first step (left / size) ∙ ap (λ (n : ℕ). first ∷ steps_from (first +ℤ step) step n) (div-eq-sub-div some high)

-- the number listed is the first of what is left
pub steps_now : (old now all : List ℤ) (x y step : ℤ) (n : ℕ) → x ≡ y → with_all now (steps_from y step (n + 1)) ≡ with_all old all →
    with_all now (x ∷ steps_from (y +ℤ step) step n) ≡ with_all old all
steps_now old now all x y step n same so =
    ap (λ (z : ℤ). with_all now (z ∷ steps_from (y +ℤ step) step n)) same ∙ ap (with_all now) (sym (steps_first y step n)) ∙ so

-- the last number is listed
pub steps_done : (old now new all : List ℤ) (x y step : ℤ) (left size : ℕ) → x ≡ y → left < size →
    with_all now (steps_from y step (left / size + 1)) ≡ with_all old all → (new ≡ with_number now x) × (length new ≤ MOST_NUMBERS) →
    (new ≡ with_all old all) × (length new ≤ MOST_NUMBERS)
steps_done old now new all x y step left size same low so h =
    (h.0 ∙ ap (with_number now) same ∙ ap (with_all now) (sym (steps_last y step left size low)) ∙ so, h.1)

-- one number is listed, and the next ones are left
pub steps_next : (old now new all : List ℤ) (x first : ℤ) (up : Bool) (offset span size : ℕ) → x ≡ away first up offset → 0 < size → size ≤ span - offset →
    with_all now (steps_from (away first up offset) (stride up size) ((span - offset) / size + 1)) ≡ with_all old all → new ≡ with_number now x →
    with_all new (steps_from (away first up (offset + size)) (stride up size) ((span - (offset + size)) / size + 1)) ≡ with_all old all
steps_next old now new all x first up offset span size same some high so h =
    let left : span - (offset + size) ≡ (span - offset) - size = omega arith in
    ap (λ (l : List ℤ). with_all l (steps_from (away first up (offset + size)) (stride up size) ((span - (offset + size)) / size + 1))) (h ∙ ap (with_number now) same)
    ∙ ap (λ (z : ℤ). with_all (with_number now (away first up offset)) (steps_from z (stride up size) ((span - (offset + size)) / size + 1))) (sym (away-step first up offset size))
    ∙ ap (λ (n : ℕ). with_all (with_number now (away first up offset)) (steps_from (away first up offset +ℤ stride up size) (stride up size) (n / size + 1))) left
    ∙ ap (with_all now) (sym (steps_more (away first up offset) (stride up size) (span - offset) size some high))
    ∙ so
