-- What is found in lists, by find and by filter.
use Rattle.std.proofs.Common.{◌≡◌, ◌⊎◌, inl, inr, Bool, true, false, cond, List, [], ◌∷◌, Some, refl, sym, ap, subst, ◌∙◌, filter, find}
use Rattle.std.proofs.lemmas.Bool.{false≢true}
use Rattle.std.proofs.lemmas.Option.{same_Some}
use Rattle.dispatch_law.proofs.Strict.{Has, has_first, has_later, has_none, has_split}

-- ---- find and filter

found_by : {X : Type 0} (test : X → Bool) (y x : X) (xs : List X) (b : Bool) → cond b (Some y) (find test xs) ≡ Some x → (find test xs ≡ Some x → Has xs x) → Has (y ∷ xs) x
found_by test y x xs true e later = subst (Has (y ∷ xs)) (same_Some y x e) (has_first y xs)
found_by test y x xs false e later = has_later y x xs (later e)

pub find_has : {X : Type 0} (test : X → Bool) (xs : List X) (x : X) → find test xs ≡ Some x → Has xs x
find_has test [] x e = cc
find_has test (y ∷ xs) x e = found_by test y x xs (test y) e (find_has test xs x)

kept_by : {X : Type 0} (test : X → Bool) (y x : X) (xs : List X) (b : Bool) → test y ≡ b → (y ≡ x) ⊎ Has xs x → test x ≡ true → (Has xs x → Has (filter test xs) x) → Has (cond b (y ∷ filter test xs) (filter test xs)) x
kept_by test y x xs true e (inl same) passes later = subst (Has (y ∷ filter test xs)) same (has_first y (filter test xs))
kept_by test y x xs true e (inr h) passes later = has_later y x (filter test xs) (later h)
kept_by test y x xs false e (inl same) passes later = absurd (false≢true (sym e ∙ (ap test same ∙ passes)))
kept_by test y x xs false e (inr h) passes later = later h

pub filter_has : {X : Type 0} (test : X → Bool) (xs : List X) (x : X) → Has xs x → test x ≡ true → Has (filter test xs) x
filter_has test [] x h passes = absurd (has_none x h)
filter_has test (y ∷ xs) x h passes = kept_by test y x xs (test y) refl (has_split y x xs h) passes (λ k. filter_has test xs x k passes)

-- an item of a filtered list
pub record IsKept {X : Type 0} (test : X → Bool) (xs : List X) (x : X) : Type 0 where
  pub there : Has xs x
  pub passes : test x ≡ true

from_by : {X : Type 0} (test : X → Bool) (y x : X) (xs : List X) (b : Bool) → test y ≡ b → Has (cond b (y ∷ filter test xs) (filter test xs)) x → (Has (filter test xs) x → IsKept test xs x) → IsKept test (y ∷ xs) x
from_by test y x xs true e h later =
    elim (has_split y x (filter test xs) h) [
      | inl same ↦ record { there = subst (Has (y ∷ xs)) same (has_first y xs); passes = ap test (sym same) ∙ e }
      | inr k ↦ let got = later k in record { there = has_later y x xs got.there; passes = got.passes }
    ]
from_by test y x xs false e h later = let got = later h in record { there = has_later y x xs got.there; passes = got.passes }

pub has_filter : {X : Type 0} (test : X → Bool) (xs : List X) (x : X) → Has (filter test xs) x → IsKept test xs x
has_filter test [] x h = absurd (has_none x h)
has_filter test (y ∷ xs) x h = from_by test y x xs (test y) refl h (has_filter test xs x)
