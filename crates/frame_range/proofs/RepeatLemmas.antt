-- Removing repeats first or later makes no difference.
use Rattle.std.proofs.Common.{◌≡◌, ℕ, suc, List, [], ◌∷◌, ◌++◌, Bool, true, false, cond, refl, sym, ap, ◌∙◌, true≢false, ⊎_elim, inl, inr}
use Rattle.std.specs.Prelude.{ℤ, Option, Some, None, ◌⊎◌}
use Rattle.std.specs.Option.{option_map, is_some}
use Rattle.std.specs.Ordering.{int_eq}
use Rattle.std.proofs.lemmas.Bool.Decides.{Decides-int_eq}
use Rattle.frame_range.specs.Places.{place_of, has, with_number, with_all, without_repeats}
use Rattle.frame_range.proofs.PlaceLemmas.{int_eq-same}
use Rattle.frame_range.proofs.StepLemmas.{with_all-append}

found_later : (b : Bool) (p q : Option ℕ) → (is_some p ≡ true → is_some q ≡ true) → is_some (cond b (Some 0) (option_map suc p)) ≡ true → is_some (cond b (Some 0) (option_map suc q)) ≡ true
found_later true p q f h = refl
found_later false None q f h = absurd (true≢false (sym h))
found_later false (Some k) None f h = f refl
found_later false (Some k) (Some m) f h = refl

-- what a list has it has with more after it
pub has-append : (xs ys : List ℤ) (z : ℤ) → has xs z ≡ true → has (xs ++ ys) z ≡ true
has-append [] ys z h = absurd (true≢false (sym h))
has-append (x ∷ xs) ys z h = found_later (int_eq z x) (place_of z xs) (place_of z (xs ++ ys)) (has-append xs ys z) h

with_keeps : (b : Bool) (xs : List ℤ) (y z : ℤ) → has xs z ≡ true → has (cond b xs (xs ++ y ∷ [])) z ≡ true
with_keeps true xs y z h = h
with_keeps false xs y z h = has-append xs (y ∷ []) z h

pub with_all-keeps : (xs ys : List ℤ) (z : ℤ) → has xs z ≡ true → has (with_all xs ys) z ≡ true
with_all-keeps xs [] z h = h
with_all-keeps xs (y ∷ ys) z h = with_all-keeps (with_number xs y) ys z (with_keeps (has xs y) xs y z h)

last_found : (b : Bool) (p : Option ℕ) → is_some p ≡ true → is_some (cond b (Some 0) (option_map suc p)) ≡ true
last_found true p h = refl
last_found false None h = absurd (true≢false (sym h))
last_found false (Some k) h = refl

has-push : (xs : List ℤ) (z : ℤ) → has (xs ++ z ∷ []) z ≡ true
has-push [] z = ap (λ (b : Bool). is_some {T = ℕ} (cond b (Some 0) None)) (int_eq-same z)
has-push (x ∷ xs) z = last_found (int_eq z x) (place_of z (xs ++ z ∷ [])) (has-push xs z)

with_has : (b : Bool) (xs : List ℤ) (z : ℤ) → has xs z ≡ b → has (cond b xs (xs ++ z ∷ [])) z ≡ true
with_has true xs z h = h
with_has false xs z h = has-push xs z

pub has_with_number : (xs : List ℤ) (z : ℤ) → has (with_number xs z) z ≡ true
has_with_number xs z = with_has (has xs z) xs z refl

found_parts : (b : Bool) (p : Option ℕ) → is_some (cond b (Some 0) (option_map suc p)) ≡ true → (b ≡ true) ⊎ (is_some p ≡ true)
found_parts true p h = inl refl
found_parts false None h = absurd (true≢false (sym h))
found_parts false (Some k) h = inr refl

-- a list has each number that was listed after it
pub with_all-has : (xs ys : List ℤ) (z : ℤ) → has ys z ≡ true → has (with_all xs ys) z ≡ true
with_all-has xs [] z h = absurd (true≢false (sym h))
with_all-has xs (y ∷ ys) z h =
    ⊎_elim
    (λ e. with_all-keeps (with_number xs y) ys z (ap (has (with_number xs y)) ((Decides-int_eq z y).0 e) ∙ has_with_number xs y))
    (λ l. with_all-has (with_number xs y) ys z l)
    (found_parts (int_eq z y) (place_of z ys) h)

with_known : (b : Bool) (l m : List ℤ) (x : ℤ) → has m x ≡ b → with_all l (cond b m (m ++ x ∷ [])) ≡ with_number (with_all l m) x
with_known true l m x h = ap (λ (b : Bool). cond b (with_all l m) (with_all l m ++ x ∷ [])) (sym (with_all-has l m x h))
with_known false l m x h = with_all-append l m (x ∷ [])

with_all-with_all : (l m xs : List ℤ) → with_all l (with_all m xs) ≡ with_all (with_all l m) xs
with_all-with_all l m [] = refl
with_all-with_all l m (x ∷ xs) = with_all-with_all l (with_number m x) xs ∙ ap (λ (k : List ℤ). with_all k xs) (with_known (has m x) l m x refl)

-- to list numbers without their repeats is to list them
pub with_all-without_repeats : (l xs : List ℤ) → with_all l (without_repeats xs) ≡ with_all l xs
with_all-without_repeats l xs = with_all-with_all l [] xs
