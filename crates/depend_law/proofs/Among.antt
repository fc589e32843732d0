-- Lists of slots of which one leaves some of the other's out.
use Rattle.std.proofs.Common.{◌≡◌, ℕ, suc, zero, ◌+◌, ◌≤◌, Bool, true, false, cond, eqb, ◌||◌, List, [], ◌∷◌, ◌++◌, length, Some, refl, sym, ap, ◌∙◌, subst, arith}
use Rattle.std.specs.Prelude.{nat_eq}
use Rattle.std.specs.List.{AllByRecursion, IsDistinct, filter, list_any, slice_get}
use Rattle.std.proofs.lemmas.Bool.{eq-eqb, eqb-true, false≢true}
use Rattle.std.proofs.lemmas.Map.Keys.{IsDistinct-cons, IsDistinct-head, IsDistinct-tail}
use Rattle.std.proofs.lemmas.Option.{none-some, same_Some}
use Rattle.farm_types.specs.Rising.{IsRising}

-- ---- what holds of each item

-- it stands in the list
abbrev pub In : {X : Type 0} → List X → X → Type 0
In xs x = (k : ℕ) × (slice_get xs k ≡ Some x)

pub in_later : {X : Type 0} (y : X) (xs : List X) (x : X) → In xs x → In (y ∷ xs) x
in_later y xs x at = (suc at.0, at.1)

pub each_at : {X : Type 0} (P : X → Type 0) (xs : List X) (n : ℕ) (x : X) → AllByRecursion P xs → slice_get xs n ≡ Some x → P x
each_at P [] n x all at = absurd (none-some x at)
each_at P (y ∷ ys) zero x all at = subst P (same_Some y x at) all.0
each_at P (y ∷ ys) (suc n) x all at = each_at P ys n x all.1 at

pub each_from_at : {X : Type 0} (P : X → Type 0) (xs : List X) → ((n : ℕ) (x : X) → slice_get xs n ≡ Some x → P x) → AllByRecursion P xs
each_from_at P [] h = tt
each_from_at P (y ∷ ys) h = (h 0 y refl, each_from_at P ys (λ n x at. h (suc n) x at))

pub each_weaker : {X : Type 0} (P Q : X → Type 0) → ((x : X) → P x → Q x) → (xs : List X) → AllByRecursion P xs → AllByRecursion Q xs
each_weaker P Q less [] all = tt
each_weaker P Q less (x ∷ xs) all = (less x all.0, each_weaker P Q less xs all.1)

pub each_append : {X : Type 0} (P : X → Type 0) (xs ys : List X) → AllByRecursion P xs → AllByRecursion P ys → AllByRecursion P (xs ++ ys)
each_append P [] ys first second = second
each_append P (x ∷ xs) ys first second = (first.0, each_append P xs ys first.1 second)

-- no item of the one list stands in the other, and none twice
pub differ_append : {X : Type 0} (e : X → X → Bool) (xs ys : List X) → IsDistinct e xs → IsDistinct e ys → AllByRecursion (λ x. AllByRecursion (λ y. e x y ≡ false) ys) xs → IsDistinct e (xs ++ ys)
differ_append e [] ys first second apart = second
differ_append e (x ∷ xs) ys first second apart =
    IsDistinct-cons e x (xs ++ ys) (each_append (λ y. e x y ≡ false) xs ys (IsDistinct-head e x xs first) apart.0) (differ_append e xs ys (IsDistinct-tail e x xs first) second apart.1)

kept_step : {X : Type 0} (test : X → Bool) (b : Bool) (y x : X) (rest kept : List X) (n : ℕ) → test y ≡ b → ((m : ℕ) → slice_get kept m ≡ Some x → In rest x × (test x ≡ true)) → slice_get (cond b (y ∷ kept) kept) n ≡ Some x
    → In (y ∷ rest) x × (test x ≡ true)
kept_step test true y x rest kept zero is later at = ((0, at), subst (λ z. test z ≡ true) (same_Some y x at) is)
kept_step test true y x rest kept (suc n) is later at = let found = later n at in (in_later y rest x found.0, found.1)
kept_step test false y x rest kept n is later at = let found = later n at in (in_later y rest x found.0, found.1)

-- what is kept of a list stands in it, and passes
pub kept_from : {X : Type 0} (test : X → Bool) (xs : List X) (n : ℕ) (x : X) → slice_get (filter test xs) n ≡ Some x → In xs x × (test x ≡ true)
kept_from test [] n x at = absurd (none-some x at)
kept_from test (y ∷ ys) n x at = kept_step test (test y) y x ys (filter test ys) n refl (λ m here. kept_from test ys m x here) at

-- ---- keys that rise

pub rising_from : {X : Type 0} (key : X → ℕ) (low mid : ℕ) (xs : List X) (high : ℕ) → low ≤ mid → IsRising key mid xs high → IsRising key low xs high
rising_from key low mid [] high h rise = omega (arith, h, rise)
rising_from key low mid (x ∷ xs) high h rise = (omega (arith, h, rise.0), rise.1)

-- each is at the lower bound or above it
pub rising_above : {X : Type 0} (key : X → ℕ) (low : ℕ) (xs : List X) (high n : ℕ) (x : X) → IsRising key low xs high → slice_get xs n ≡ Some x → low ≤ key x
rising_above key low [] high n x rise at = absurd (none-some x at)
rising_above key low (y ∷ ys) high zero x rise at = subst (λ z. low ≤ key z) (same_Some y x at) rise.0
rising_above key low (y ∷ ys) high (suc n) x rise at = omega (arith, rise.0, rising_above key (key y + 1) ys high n x rise.1 at)

-- no key stands twice
pub rising_once : {X : Type 0} (key : X → ℕ) (low : ℕ) (xs : List X) (high i k : ℕ) (x y : X) → IsRising key low xs high → slice_get xs i ≡ Some x → slice_get xs k ≡ Some y → key x ≡ key y → i ≡ k
rising_once key low [] high i k x y rise at_i at_k same = absurd (none-some x at_i)
rising_once key low (z ∷ zs) high zero zero x y rise at_i at_k same = refl
rising_once key low (z ∷ zs) high zero (suc k) x y rise at_i at_k same =
    let first : key z ≡ key x = ap key (same_Some z x at_i) in
    absurd (omega (arith, rising_above key (key z + 1) zs high k y rise.1 at_k, first, same))
rising_once key low (z ∷ zs) high (suc i) zero x y rise at_i at_k same =
    let first : key z ≡ key y = ap key (same_Some z y at_k) in
    absurd (omega (arith, rising_above key (key z + 1) zs high i x rise.1 at_i, first, same))
rising_once key low (z ∷ zs) high (suc i) (suc k) x y rise at_i at_k same = ap suc (rising_once key (key z + 1) zs high i k x y rise.1 at_i at_k same)

-- ---- some of a list

-- Each number of the first list stands in the second, and none twice where none does there.
pub record Among (xs ys : List ℕ) : Type 0 where
  pub members : (k w : ℕ) → slice_get xs k ≡ Some w → In ys w
  pub differ : IsDistinct nat_eq ys → IsDistinct nat_eq xs
  pub count : length xs ≤ length ys

nothing_differs : IsDistinct nat_eq []
unfolding IsDistinct
nothing_differs = tt

pub among_none : (ys : List ℕ) → Among [] ys
among_none ys = record { members = λ k w at. absurd (none-some w at); differ = λ h. nothing_differs; count = omega arith }

pub among_same : (ys : List ℕ) → Among ys ys
among_same ys = record { members = λ k w at. (k, at); differ = λ h. h; count = omega arith }

pub among_then : (xs ys zs : List ℕ) → Among xs ys → Among ys zs → Among xs zs
among_then xs ys zs first second =
    record {
      members = λ k w at. let mid = first.members k w at in second.members mid.0 w mid.1;
      differ = λ h. first.differ (second.differ h);
      count = omega (arith, first.count, second.count);
    }

-- one is left out
pub among_skip : (y : ℕ) (xs ys : List ℕ) → Among xs ys → Among xs (y ∷ ys)
among_skip y xs ys some =
    record {
      members = λ k w at. in_later y ys w (some.members k w at);
      differ = λ h. some.differ (IsDistinct-tail nat_eq y ys h);
      count = omega (arith, some.count);
    }

-- one is taken
pub among_cons : (x : ℕ) (xs ys : List ℕ) → Among xs ys → Among (x ∷ xs) (x ∷ ys)
among_cons x xs ys some =
    record {
      members = members;
      differ = λ h.
          let apart = IsDistinct-head nat_eq x ys h in
          IsDistinct-cons nat_eq x xs
          (each_from_at (λ w. nat_eq x w ≡ false) xs (λ k w at. let there = some.members k w at in each_at (λ v. nat_eq x v ≡ false) ys there.0 w apart there.1))
          (some.differ (IsDistinct-tail nat_eq x ys h));
      count = omega (arith, some.count);
    }
  where
    members : (k w : ℕ) → slice_get (x ∷ xs) k ≡ Some w → In (x ∷ ys) w
    members zero w at = (0, at)
    members (suc k) w at = in_later x ys w (some.members k w at)

pub among_left : (xs ys : List ℕ) → Among xs (xs ++ ys)
among_left [] ys = among_none ys
among_left (x ∷ xs) ys = among_cons x xs (xs ++ ys) (among_left xs ys)

pub among_right : (xs ys : List ℕ) → Among ys (xs ++ ys)
among_right [] ys = among_same ys
among_right (x ∷ xs) ys = among_skip x ys (xs ++ ys) (among_right xs ys)

-- no number of the one list stands in the other
pub apart_in : (xs ys : List ℕ) (i k w : ℕ) → IsDistinct nat_eq (xs ++ ys) → slice_get xs i ≡ Some w → slice_get ys k ≡ Some w → ⊥
apart_in [] ys i k w differ first second = none-some w first
apart_in (x ∷ xs) ys zero k w differ first second =
    let there = (among_right xs ys).members k w second in
    let apart = each_at (λ v. nat_eq x v ≡ false) (xs ++ ys) there.0 w (IsDistinct-head nat_eq x (xs ++ ys) differ) there.1 in
    false≢true (sym apart ∙ eq-eqb x w (same_Some x w first))
apart_in (x ∷ xs) ys (suc i) k w differ first second = apart_in xs ys i k w (IsDistinct-tail nat_eq x (xs ++ ys) differ) first second

any_step : (w slot : ℕ) (rest : List ℕ) (b : Bool) → eqb w slot ≡ b → (list_any (λ v. eqb v slot) rest ≡ true → In rest slot) → (b || list_any (λ v. eqb v slot) rest) ≡ true → In (w ∷ rest) slot
any_step w slot rest true is later h = (0, ap Some (eqb-true w slot is))
any_step w slot rest false is later h = in_later w rest slot (later h)

-- a number that is among them stands in the list
pub in_from_any : (slot : ℕ) (xs : List ℕ) → list_any (λ v. eqb v slot) xs ≡ true → In xs slot
in_from_any slot [] h = absurd (false≢true h)
in_from_any slot (w ∷ ws) h = any_step w slot ws (eqb w slot) refl (in_from_any slot ws) h
