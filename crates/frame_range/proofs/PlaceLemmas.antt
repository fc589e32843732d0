-- The place of a number in a list.
use Rattle.std.proofs.Common.{arith, ◌≡◌, ◌≤◌, ◌+◌, ◌||◌, ℕ, suc, List, [], ◌∷◌, ◌++◌, length, Bool, true, false, cond, not, ltb, lt-ltb, le-ltb, ltb-true, ltb-false, refl, sym, ap, ◌∙◌}
use Rattle.std.proofs.lemmas.Grind.{common_steps}
use Rattle.std.specs.Prelude.{ℤ, Option, Some, None, position}
use Rattle.std.specs.List.{list_any, position_or_len}
use Rattle.std.specs.Option.{option_map, is_some}
use Rattle.std.specs.Ordering.{int_eq}
use Rattle.std.proofs.lemmas.Bool.Decides.{Decides-int_eq, same_from_decides}
use Rattle.frame_range.specs.Places.{has, place_of, with_number}

pub int_eq-same : (x : ℤ) → int_eq x x ≡ true
int_eq-same x = (Decides-int_eq x x).1 refl

pub int_eq-comm : (x y : ℤ) → int_eq x y ≡ int_eq y x
int_eq-comm x y = same_from_decides {P = x ≡ y} (int_eq x y) (int_eq y x) (Decides-int_eq x y) ((λ h. sym ((Decides-int_eq y x).0 h)), (λ h. (Decides-int_eq y x).1 (sym h)))

pub int_eq-along : (x y z : ℤ) → int_eq z x ≡ true → int_eq y x ≡ false → int_eq y z ≡ false
int_eq-along x y z e h = let same : z ≡ x = (Decides-int_eq z x).0 e in ap (int_eq y) same ∙ h

-- where a list has a number, and whether it has it, as a set of numbers says it
place_step : (b : Bool) (n m : ℕ) (p : Option ℕ) → cond (ltb n m) (Some n) None ≡ p
    → cond (ltb (cond (not b) (1 + n) 0) (suc m)) (Some (cond (not b) (1 + n) 0)) None ≡ cond b (Some 0) (option_map suc p)
place_step true n m p is = ap (λ (t : Bool). cond t (Some 0) None) (lt-ltb 0 (suc m) (omega arith))
place_step false n m p is = by (ltb n m) refl
  where
    more : 1 + n ≡ suc n
    more = omega arith

    by : (t : Bool) → ltb n m ≡ t → cond (ltb (1 + n) (suc m)) (Some (1 + n)) None ≡ option_map suc p
    by true less = ap (λ (t : Bool). cond t (Some (1 + n)) None) (lt-ltb (1 + n) (suc m) (omega (arith, ltb-true n m less))) ∙ ap Some more ∙ ap (option_map suc) (ap (λ (t : Bool). cond t (Some n) None) (sym less) ∙ is)
    by false not_less = ap (λ (t : Bool). cond t (Some (1 + n)) None) (le-ltb (1 + n) (suc m) (omega (arith, ltb-false n m not_less))) ∙ ap (option_map suc) (ap (λ (t : Bool). cond t (Some n) None) (sym not_less) ∙ is)

pub place_is : (z : ℤ) (xs : List ℤ) → position (int_eq z) xs ≡ place_of z xs
place_is z [] = ap (λ (t : Bool). cond t (Some 0) None) (le-ltb 0 0 (omega arith))
place_is z (x ∷ xs) = place_step (int_eq z x) (position_or_len (int_eq z) xs) (length xs) (place_of z xs) (place_is z xs)

pub has_is : (z : ℤ) (xs : List ℤ) → list_any (int_eq z) xs ≡ has xs z
has_is z [] = refl
has_is z (x ∷ xs) = by (int_eq z x) (place_of z xs) (has_is z xs)
  where
    by : (b : Bool) (p : Option ℕ) → list_any (int_eq z) xs ≡ is_some p → (b || list_any (int_eq z) xs) ≡ is_some (cond b (Some 0) (option_map suc p))
    by true p h = refl
    by false None h = h
    by false (Some n) h = h

-- the list with a number is the set with it, and at most one longer
pub with_is : (z : ℤ) (xs : List ℤ) → cond (list_any (int_eq z) xs) xs (xs ++ z ∷ []) ≡ with_number xs z
with_is z xs = ap (λ (b : Bool). cond b xs (xs ++ z ∷ [])) (has_is z xs)

pub with_most : (z : ℤ) (xs : List ℤ) → length (with_number xs z) ≤ length xs + 1
with_most z xs = by (has xs z)
  where
    by : (b : Bool) → length (cond b xs (xs ++ z ∷ [])) ≤ length xs + 1
    by true = omega arith
    by false = grind (arith, common_steps)

pub with_new : (z : ℤ) (xs : List ℤ) → has xs z ≡ false → length (with_number xs z) ≡ length xs + 1
with_new z xs new = ap (λ (b : Bool). length (cond b xs (xs ++ z ∷ []))) new ∙ grind (arith, common_steps)
