-- The numbers of a set: each stands once, and there is at least one.
use Rattle.std.proofs.Common.{◌≡◌, ℕ, suc, ◌+◌, ◌<◌, List, [], ◌∷◌, ◌++◌, length, Bool, true, false, cond, refl, sym, ap, ◌∙◌, arith, true≢false, subst, zero}
use Rattle.std.specs.Prelude.{ℤ, Option, Some, None, ◌||◌}
use Rattle.std.specs.Option.{option_map, is_some}
use Rattle.std.specs.Ordering.{int_eq}
use Rattle.std.specs.List.{AllByRecursion, IsDistinct, slice_get, list_any, flat_map}
use Rattle.std.proofs.lemmas.Cmp.{int_eq_equiv}
use Rattle.std.proofs.lemmas.List.Folds.{list_any-append}
use Rattle.std.proofs.lemmas.Map.Keys.{IsDistinct-push, IsDistinct-head, IsDistinct-tail}
use Rattle.std.proofs.lemmas.Bool.Decides.{Decides-int_eq}
use Rattle.frame_range.proofs.PlaceLemmas.{int_eq-same, int_eq-comm}
use Rattle.frame_range.specs.declared.section.Section.{Section}
use Rattle.frame_range.specs.declared.fault.RangeFault.{RangeFault}
use Rattle.frame_range.specs.Checks.{has_past, has_zero_step, goes_wrong_way}
use Rattle.frame_range.specs.Places.{place_of, has, with_number, with_all}
use Rattle.frame_range.specs.Sets.{numbers_of, is_nil, fault_of, fault_from, IsSet}
use Rattle.frame_range.specs.Steps.{section_numbers}
use Rattle.frame_range.proofs.StepLemmas.{length-le-with_all, with_all-append}
use Rattle.frame_range.proofs.AddLemmas.{first_none}

found_or : (b : Bool) (p : Option ℕ) → is_some (cond b (Some 0) (option_map suc p)) ≡ (b || is_some p)
found_or true p = refl
found_or false None = refl
found_or false (Some k) = refl

pub has_any : (z : ℤ) (xs : List ℤ) → has xs z ≡ list_any (int_eq z) xs
has_any z [] = refl
has_any z (x ∷ xs) = found_or (int_eq z x) (place_of z xs) ∙ ap (λ (b : Bool). int_eq z x || b) (has_any z xs)

with_distinct : (b : Bool) (xs : List ℤ) (z : ℤ) → has xs z ≡ b → IsDistinct int_eq xs → IsDistinct int_eq (cond b xs (xs ++ z ∷ []))
with_distinct true xs z h d = d
with_distinct false xs z h d = IsDistinct-push int_eq_equiv xs z d (sym (has_any z xs) ∙ h)

with_all-distinct : (xs zs : List ℤ) → IsDistinct int_eq xs → IsDistinct int_eq (with_all xs zs)
with_all-distinct xs [] d = d
with_all-distinct xs (z ∷ zs) d = with_all-distinct (with_number xs z) zs (with_distinct (has xs z) xs z refl d)

none_distinct : IsDistinct int_eq []
unfolding IsDistinct
none_distinct = tt

-- each number of sections stands once
pub numbers_distinct : (ss : List Section) → IsDistinct int_eq (numbers_of ss)
unfolding numbers_of
numbers_distinct ss = with_all-distinct [] (flat_map section_numbers ss) none_distinct

-- ---- at least one number

last_none : (b : Bool) (f : RangeFault) (rest : Option RangeFault) → cond b (Some f) rest ≡ None → (b ≡ false) × (rest ≡ None)
last_none true f rest h = absurd (cc)
last_none false f rest h = (refl, h)

not_empty : (place : ℕ) (listed : List ℤ) (s : Section) → fault_of place listed s ≡ None → is_nil (section_numbers s) ≡ false
unfolding fault_of
not_empty place listed s h =
    let past = last_none (has_past s) _ _ h in
    let zero_step = last_none (has_zero_step s) _ _ past.1 in
    let wrong = last_none (goes_wrong_way s) _ _ zero_step.1 in
    (last_none (is_nil (section_numbers s)) _ _ wrong.1).0

listed_some : (zs : List ℤ) → is_nil zs ≡ false → 0 < length (with_all [] zs)
listed_some [] h = absurd (true≢false h)
listed_some (z ∷ zs) h = omega (arith, length-le-with_all (z ∷ []) zs)

-- a set has a number
pub numbers_some : (ss : List Section) → IsSet ss → 0 < length (numbers_of ss)
unfolding numbers_of
numbers_some [] h = absurd (omega (arith, h.some))
numbers_some (s ∷ ss) h =
    let both = first_none (fault_of 1 [] s) (fault_from (1 + 1) (with_all [] (section_numbers s)) ss) h.faultless in
    omega (
      arith,
      listed_some (section_numbers s) (not_empty 1 [] s both.0),
      length-le-with_all (with_all [] (section_numbers s)) (flat_map section_numbers ss),
      ap length (with_all-append [] (section_numbers s) (flat_map section_numbers ss)),
    )

-- ---- places

place_found : (z x : ℤ) (b : Bool) (o : Option ℕ) (xs : List ℤ) (i : ℕ) → int_eq z x ≡ b → ((j : ℕ) → o ≡ Some j → slice_get xs j ≡ Some z) →
    cond b (Some 0) (option_map suc o) ≡ Some i → slice_get (x ∷ xs) i ≡ Some z
place_found z x true o xs i e rest h =
    let none : 0 ≡ i = cc in
    let same : z ≡ x = (Decides-int_eq z x).0 e in
    subst (λ (k : ℕ). slice_get (x ∷ xs) k ≡ Some z) none (ap (λ (v : ℤ). Some v) (sym same))
place_found z x false None xs i e rest h = absurd (cc)
place_found z x false (Some j) xs i e rest h =
    let next : suc j ≡ i = cc in
    subst (λ (k : ℕ). slice_get (x ∷ xs) k ≡ Some z) next (rest j refl)

-- what stands at a number's place is the number
pub get_of_place : (z : ℤ) (xs : List ℤ) (i : ℕ) → place_of z xs ≡ Some i → slice_get xs i ≡ Some z
get_of_place z [] i h = absurd (cc)
get_of_place z (x ∷ xs) i h = place_found z x (int_eq z x) (place_of z xs) xs i refl (λ j k. get_of_place z xs j k) h

other_at : (x z : ℤ) (xs : List ℤ) (i : ℕ) → AllByRecursion (λ (y : ℤ). int_eq x y ≡ false) xs → slice_get xs i ≡ Some z → int_eq x z ≡ false
other_at x z [] i h g = absurd (cc)
other_at x z (y ∷ ys) zero h g = let same : y ≡ z = cc in ap (int_eq x) (sym same) ∙ h.0
other_at x z (y ∷ ys) (suc i) h g = other_at x z ys i h.1 g

-- a number that stands once has the place where it stands
pub place_of_get : (z : ℤ) (xs : List ℤ) (i : ℕ) → IsDistinct int_eq xs → slice_get xs i ≡ Some z → place_of z xs ≡ Some i
place_of_get z [] i d g = absurd (cc)
place_of_get z (x ∷ xs) zero d g =
    let same : x ≡ z = cc in
    ap (λ (b : Bool). cond b (Some 0) (option_map suc (place_of z xs))) (ap (int_eq z) same ∙ int_eq-same z)
place_of_get z (x ∷ xs) (suc i) d g =
    ap (λ (b : Bool). cond b (Some 0) (option_map suc (place_of z xs))) (int_eq-comm z x ∙ other_at x z xs i (IsDistinct-head int_eq x xs d) g)
    ∙ ap (option_map suc) (place_of_get z xs i (IsDistinct-tail int_eq x xs d) g)

-- ---- members

or_absorb : (p q : Bool) → (q ≡ true → p ≡ true) → p ≡ (p || q)
or_absorb true q h = refl
or_absorb false true h = h refl
or_absorb false false h = refl

or_none : (p : Bool) → (p || false) ≡ p
or_none true = refl
or_none false = refl

or_join : (p q r : Bool) → ((p || q) || r) ≡ (p || (q || r))
or_join true q r = refl
or_join false q r = refl

with_number-has : (b : Bool) (xs : List ℤ) (y z : ℤ) → has xs y ≡ b → has (cond b xs (xs ++ y ∷ [])) z ≡ (has xs z || int_eq z y)
with_number-has true xs y z h = or_absorb (has xs z) (int_eq z y) (λ e. ap (has xs) ((Decides-int_eq z y).0 e) ∙ h)
with_number-has false xs y z h =
    has_any z (xs ++ y ∷ []) ∙ list_any-append (int_eq z) xs (y ∷ [])
    ∙ ap (λ (b : Bool). b || (int_eq z y || false)) (sym (has_any z xs)) ∙ ap (λ (b : Bool). has xs z || b) (or_none (int_eq z y))

with_all-any : (xs zs : List ℤ) (z : ℤ) → has (with_all xs zs) z ≡ (has xs z || list_any (int_eq z) zs)
with_all-any xs [] z = sym (or_none (has xs z))
with_all-any xs (y ∷ ys) z =
    with_all-any (with_number xs y) ys z
    ∙ ap (λ (b : Bool). b || list_any (int_eq z) ys) (with_number-has (has xs y) xs y z refl)
    ∙ or_join (has xs z) (int_eq z y) (list_any (int_eq z) ys)

any_section : (ss : List Section) (z : ℤ) → list_any (int_eq z) (flat_map section_numbers ss) ≡ list_any (λ s. has (section_numbers s) z) ss
any_section [] z = refl
any_section (s ∷ ss) z =
    list_any-append (int_eq z) (section_numbers s) (flat_map section_numbers ss)
    ∙ ap (λ (b : Bool). b || list_any (int_eq z) (flat_map section_numbers ss)) (sym (has_any z (section_numbers s)))
    ∙ ap (λ (b : Bool). has (section_numbers s) z || b) (any_section ss z)

-- a set has the numbers of its sections and no other
pub numbers_from_sections : (ss : List Section) (z : ℤ) → has (numbers_of ss) z ≡ list_any (λ s. has (section_numbers s) z) ss
unfolding numbers_of
numbers_from_sections ss z = with_all-any [] (flat_map section_numbers ss) z ∙ any_section ss z
