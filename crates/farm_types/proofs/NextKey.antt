-- The first item of which the key is above a bound has the least such key, since the keys rise.
use Rattle.std.proofs.Common.{◌≡◌, ℕ, suc, zero, ◌+◌, ◌≤◌, ◌<◌, Bool, true, false, List, [], ◌∷◌, Option, Some, None, All, IfSome, IfNone, option_map, is_some, refl, eqb, ltb, arith}
use Rattle.std.specs.List.{find}
use Rattle.std.proofs.lemmas.Bool.{eq-eqb, ltb-true, ltb-false}
use Rattle.farm_types.specs.Rising.{IsNextKey, IsRising}
use Rattle.farm_types.proofs.Searched.{at_least}

module _ {X : Type 0} where
  all_cons : (P : X → Type 0) (x : X) (xs : List X) → P x → All P xs → All P (x ∷ xs)
  all_cons P x xs here rest zero d within = here
  all_cons P x xs here rest (suc i) d within = rest i d (omega arith)

  there_by : (test : X → Bool) (b : Bool) (x : X) (xs : List X) → test x ≡ b → is_some (find test xs) ≡ true → is_some (find test (x ∷ xs)) ≡ true
  there_by test true x xs is there = rw is refl
  there_by test false x xs is there = rw is there

  abbrev pub key_above : (X → ℕ) → ℕ → List X → Option ℕ
  key_above key after xs = option_map key (find (λ x. ltb after (key x)) xs)

-- what is said of the first key above, where there is one and where there is none
pub record IsNext {X : Type 0} (key : X → ℕ) (after : ℕ) (xs : List X) (o : Option ℕ) : Type 0 where
  pub least : IfSome o (IsNextKey key xs after)
  pub none : IfNone o (All (λ x. key x ≤ after) xs)

module _ {X : Type 0} (key : X → ℕ) (after : ℕ) (x : X) (xs : List X) where
  -- the first item isn't above
  next_behind : key x ≤ after → (o : Option ℕ) → IsNext key after xs o → IsNext key after (x ∷ xs) o
  next_behind below None next = record { least = tt; none = all_cons (λ (y : X). key y ≤ after) x xs below next.none }
  next_behind below (Some n) next =
      record {
        least = record {
          there = there_by (λ (y : X). eqb (key y) n) (eqb (key x) n) x xs refl next.least.there;
          above = next.least.above;
          least = all_cons (λ (y : X). after < key y → n ≤ key y) x xs (λ above. absurd (omega arith)) next.least.least;
        };
        none = tt;
      }

  -- it is
  next_first : (high : ℕ) → IsRising key (key x + 1) xs high → after < key x → IsNext key after (x ∷ xs) (Some (key x))
  next_first high rise above =
      let itself : eqb (key x) (key x) ≡ true = eq-eqb (key x) (key x) refl in
      record {
        least = record {
          there = rw itself refl;
          above = above;
          least = all_cons (λ (y : X). after < key y → key x ≤ key y) x xs (λ _. omega arith) (λ k d within _. omega (arith, at_least key (key x + 1) xs high k d rise within));
        };
        none = tt;
      }

  next_by : (b : Bool) (low high : ℕ) → ltb after (key x) ≡ b → IsRising key low (x ∷ xs) high → IsNext key after xs (key_above key after xs) → IsNext key after (x ∷ xs) (key_above key after (x ∷ xs))
  next_by true low high is rise later = rw is (next_first high rise.1 (ltb-true after (key x) is))
  next_by false low high is rise later = rw is (next_behind (ltb-false after (key x) is) (key_above key after xs) later)

pub next_is : {X : Type 0} (key : X → ℕ) (after low : ℕ) (xs : List X) (high : ℕ) → IsRising key low xs high → IsNext key after xs (key_above key after xs)
next_is key after low [] high rise = record { least = tt; none = λ k d within. absurd (omega arith) }
next_is key after low (x ∷ xs) high rise = next_by key after x xs (ltb after (key x)) low high refl rise (next_is key after (key x + 1) xs high rise.1)
