-- Two texts that are each put together from two: when they are equal.
use Rattle.std.proofs.Common.{◌≡◌, ◌≢◌, ℕ, Bool, false, ◌&&◌, List, [], ◌∷◌, ◌++◌, refl, sym, ap, ◌∙◌, append_assoc}
use Rattle.std.specs.Str.{bytes_eq}
use Rattle.std.proofs.lemmas.Bool.{eq-eqb, false_from_ne_true}
use Rattle.std.proofs.lemmas.Slice.Eq.{bytes_eq-Decides}

-- behind a front that both have, what is left decides
pub bytes_eq-behind : (front xs ys : List ℕ) → bytes_eq (front ++ xs) (front ++ ys) ≡ bytes_eq xs ys
bytes_eq-behind [] xs ys = refl
bytes_eq-behind (x ∷ front) xs ys = ap (λ (b : Bool). b && bytes_eq (front ++ xs) (front ++ ys)) (eq-eqb x x refl) ∙ bytes_eq-behind front xs ys

-- a text that doesn't begin with the front is no text that does
pub bytes_eq-no_front : (front xs name : List ℕ) → ((rest : List ℕ) → name ≢ front ++ rest) → bytes_eq (front ++ xs) name ≡ false
bytes_eq-no_front front xs name apart = false_from_ne_true _ (λ same. apart xs (sym ((bytes_eq-Decides (front ++ xs) name).0 same)))

-- a text that goes on behind the front
pub bytes_eq-front : (front xs name rest : List ℕ) → name ≡ front ++ rest → bytes_eq (front ++ xs) name ≡ bytes_eq xs rest
bytes_eq-front front xs name rest is = ap (bytes_eq (front ++ xs)) is ∙ bytes_eq-behind front xs rest

-- the second front goes on behind the first
pub bytes_eq-goes_on : (front xs other ys more : List ℕ) → other ≡ front ++ more → bytes_eq (front ++ xs) (other ++ ys) ≡ bytes_eq xs (more ++ ys)
bytes_eq-goes_on front xs other ys more is = bytes_eq-front front xs (other ++ ys) (more ++ ys) (ap (λ zs. zs ++ ys) is ∙ append_assoc front more ys)

-- equal texts of which neither front begins with the other
no_front : (front xs other ys : List ℕ) → ((rest : List ℕ) → other ≢ front ++ rest) → ((rest : List ℕ) → front ≢ other ++ rest) → front ++ xs ≢ other ++ ys
no_front [] xs other ys apart _ same = apart other refl
no_front (x ∷ front) xs [] ys _ apart same = apart (x ∷ front) refl
no_front (x ∷ front) xs (y ∷ other) ys apart others same =
    let first : x ≡ y = cc in
    let rest : front ++ xs ≡ other ++ ys = cc in
    no_front front xs other ys (λ more is. apart more (rw (first, is) refl)) (λ more is. others more (rw (first, is) refl)) rest

pub bytes_eq-fronts_apart : (front xs other ys : List ℕ) → ((rest : List ℕ) → other ≢ front ++ rest) → ((rest : List ℕ) → front ≢ other ++ rest) → bytes_eq (front ++ xs) (other ++ ys) ≡ false
bytes_eq-fronts_apart front xs other ys apart others = false_from_ne_true _ (λ same. no_front front xs other ys apart others ((bytes_eq-Decides (front ++ xs) (other ++ ys)).0 same))
