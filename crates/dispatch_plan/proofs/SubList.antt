-- The subscriptions to an allocation, read show by show.
use Rattle.std.proofs.Common.{◌≡◌, ℕ, zero, suc, ◌+◌, ◌-◌, ◌/◌, ◌%◌, ◌≤◌, ◌<◌, ◌⊎◌, inl, inr, Bool, true, false, cond, List, [], ◌∷◌, ◌++◌, take, drop, length, Option, Some, None, refl, sym, ap, subst, ◌∙◌, arith, eqb}
use Rattle.std.proofs.Math.Numerals.{one-add}
use Rattle.std.specs.List.{insert, prefix_len}
use Rattle.std.specs.Ordering.{is_gt, nat_cmp}
use Rattle.std.specs.Prelude.{nat_lt}
use Rattle.std.proofs.lemmas.Bool.{eqb-true, eq-eqb, ltb-true}
use Rattle.std.proofs.lemmas.Cmp.{nat_cmp_total, on_total}
use Rattle.farm_types.specs.declared.rows.SubRow.{SubRow}
use Rattle.farm_types.specs.declared.limits.TheConstants.{MOST_ALLOCS, MOST_SHOWS, SUB_NUMBERS}
use Rattle.farm_types.specs.Dispatch.{with_found}
use Rattle.farm_types.specs.Farm.{Farm, sub_at, sub_of}
use Rattle.farm_types.specs.Kept.{KeepsRows, is_kept_sub}
use Rattle.farm_types.specs.Rising.{IsRising, sub_key}
use Rattle.farm_types.proofs.Lists.{and_both, found_is, list_all-at}
use Rattle.dispatch_law.specs.ByIndex.{insert_sub, sorted_subs, sub_cmp, subs_to}
use Rattle.dispatch_plan.specs.Offers.{subs_from}
use Rattle.dispatch_law.proofs.Found.{find_has, has_filter, filter_has}
use Rattle.dispatch_law.proofs.InShow.{filter_strict}
use Rattle.dispatch_law.proofs.Keys.{less_is}
use Rattle.dispatch_law.proofs.RankFacts.{found_split, found_has, found_later}
use Rattle.dispatch_law.proofs.Strict.{Has, has_none, has_split, IsStrict, strict_same}
use Rattle.dispatch_law.proofs.Subs.{sub_found, subs_rise}

-- a subscription that was found at a show
pub record IsFrom (f : Farm) (alloc show count : ℕ) (s : SubRow) : Type 0 where
  pub k : ℕ
  pub low : show ≤ k
  pub high : k < show + count
  pub found : sub_at f (sub_of k alloc) ≡ Some s

subs_have : (f : Farm) (alloc show count : ℕ) (s : SubRow) → Has (subs_from f alloc show count) s → IsFrom f alloc show count s
subs_have f alloc show zero s h = absurd (has_none s h)
subs_have f alloc show (suc count) s h =
    elim (found_split (sub_at f (sub_of show alloc)) (subs_from f alloc (show + 1) count) s h) [
      | inl e ↦ record { k = show; low = omega arith; high = omega arith; found = e }
      | inr later ↦ (let got = subs_have f alloc (show + 1) count s later in
          let low = got.low in
          let high = got.high in
          record { k = got.k; low = omega arith; high = omega arith; found = got.found })
    ]

start_by : (d m n : ℕ) → d ≡ n - m → m ≤ n → (m ≡ n) ⊎ (m + 1 ≤ n)
start_by zero m n e h = inl (omega arith)
start_by (suc d) m n e h = inr (omega arith)

have_sub : (f : Farm) (alloc show count k : ℕ) (s : SubRow) → sub_at f (sub_of k alloc) ≡ Some s → show ≤ k → k < show + count → Has (subs_from f alloc show count) s
have_sub f alloc show zero k s e low high = absurd (omega arith)
have_sub f alloc show (suc count) k s e low high =
    elim (start_by (k - show) show k refl low) as (λ _. Has (subs_from f alloc show (suc count)) s) [
      | inl same ↦ found_has (sub_at f (sub_of show alloc)) (subs_from f alloc (show + 1) count) s (ap (λ n. sub_at f (sub_of n alloc)) same ∙ e)
      | inr above ↦ found_later (sub_at f (sub_of show alloc)) (subs_from f alloc (show + 1) count) s (have_sub f alloc (show + 1) count k s e above (omega arith))
    ]

-- the number of a subscription that is found
number_is : (f : Farm) (n : ℕ) (s : SubRow) → sub_at f n ≡ Some s → s.sub ≡ n
number_is f n s e = eqb-true s.sub n (found_is (λ (z : SubRow). eqb z.sub n) f.subs s e)

first_strict : (f : Farm) (alloc show count : ℕ) (o : Option SubRow) → sub_at f (sub_of show alloc) ≡ o → IsStrict (λ (x y : SubRow). nat_cmp x.sub y.sub) (subs_from f alloc (show + 1) count)
    → IsStrict (λ (x y : SubRow). nat_cmp x.sub y.sub) (with_found o (subs_from f alloc (show + 1) count))
first_strict f alloc show count None e later = later
first_strict f alloc show count (Some s) e later = (
  λ y h.
      let got = subs_have f alloc (show + 1) count y h in
      let a = number_is f (sub_of show alloc) s e in
      let b = number_is f (sub_of got.k alloc) y got.found in
      let low = got.low in
      less_is s.sub y.sub (omega (arith, a, b, low)),
  later,
)

from_strict : (f : Farm) (alloc show count : ℕ) → IsStrict (λ (x y : SubRow). nat_cmp x.sub y.sub) (subs_from f alloc show count)
from_strict f alloc show zero = tt
from_strict f alloc show (suc count) = first_strict f alloc show count (sub_at f (sub_of show alloc)) refl (from_strict f alloc (show + 1) count)

rising_end : (low high : ℕ) (xs : List SubRow) → IsRising sub_key low xs high → low ≤ high
rising_end low high [] up = up
rising_end low high (x ∷ xs) up = (let later = rising_end (x.sub + 1) high xs up.1 in let first = up.0 in omega arith)

rising_below : (low high : ℕ) (xs : List SubRow) (s : SubRow) → IsRising sub_key low xs high → Has xs s → s.sub < high
rising_below low high [] s up h = absurd (has_none s h)
rising_below low high (x ∷ xs) s up h =
    elim (has_split x s xs h) [
      | inl e ↦ (let same : x.sub ≡ s.sub = ap (λ (z : SubRow). z.sub) e in let end = rising_end (x.sub + 1) high xs up.1 in omega arith)
      | inr k ↦ rising_below (x.sub + 1) high xs s up.1 k
    ]

-- its show is one that there can be
pub show_below : (f : Farm) (s : SubRow) → KeepsRows f → Has f.subs s → s.sub / MOST_ALLOCS < MOST_SHOWS
show_below f s kept h = (let below = rising_below 0 SUB_NUMBERS f.subs s kept.subs.rise h in omega (arith, below))

-- read show by show they are those to the allocation
pub subs_from_is : (f : Farm) (alloc : ℕ) → KeepsRows f → alloc < MOST_ALLOCS → subs_from f alloc 0 MOST_SHOWS ≡ subs_to f alloc
subs_from_is f alloc kept within =
    let rise = subs_rise f kept.shows (length f.allocs) kept.subs in
    strict_same (λ (x y : SubRow). nat_cmp x.sub y.sub) (on_total (λ (x : SubRow). x.sub) nat_cmp_total) (subs_from f alloc 0 MOST_SHOWS) (subs_to f alloc) (from_strict f alloc 0 MOST_SHOWS)
    (filter_strict (λ (x y : SubRow). nat_cmp x.sub y.sub) (λ (z : SubRow). eqb (z.sub % MOST_ALLOCS) alloc) f.subs rise)
    (λ s h.
    let got = subs_have f alloc 0 MOST_SHOWS s h in
    let number = number_is f (sub_of got.k alloc) s got.found in
    let same : s.sub % MOST_ALLOCS ≡ alloc = omega (arith, number, within) in
    filter_has (λ (z : SubRow). eqb (z.sub % MOST_ALLOCS) alloc) f.subs s (find_has (λ (z : SubRow). eqb z.sub (sub_of got.k alloc)) f.subs s got.found) (eq-eqb (s.sub % MOST_ALLOCS) alloc same))
    (λ s h.
    let got = has_filter (λ (z : SubRow). eqb (z.sub % MOST_ALLOCS) alloc) f.subs s h in
    let same = eqb-true (s.sub % MOST_ALLOCS) alloc got.passes in
    let below = show_below f s kept got.there in
    let number : s.sub ≡ sub_of (s.sub / MOST_ALLOCS) alloc = omega (arith, same) in
    have_sub f alloc 0 MOST_SHOWS (s.sub / MOST_ALLOCS) s (ap (sub_at f) (sym number) ∙ sub_found f kept.shows (length f.allocs) kept.subs s got.there) (omega arith) (omega (arith, below)))

-- ---- sorted as they are read, from the last show to the first

-- a subscription that is found is of a show that is there
show_there : (f : Farm) (alloc show : ℕ) (s : SubRow) → KeepsRows f → sub_at f (sub_of show alloc) ≡ Some s → show < length f.shows
show_there f alloc show s kept found =
    let there = find_has (λ (z : SubRow). eqb z.sub (sub_of show alloc)) f.subs s found in
    let each = list_all-at (is_kept_sub (length f.shows) (length f.allocs)) f.subs there.place s kept.subs.each there.at in
    let within = ltb-true (s.sub / MOST_ALLOCS) (length f.shows) (and_both (nat_lt (s.sub / MOST_ALLOCS) (length f.shows)) _ each).0 in
    let number = number_is f (sub_of show alloc) s found in
    omega (arith, within, number)

-- past the last show there is none
pub none_past : (f : Farm) (alloc show count : ℕ) → KeepsRows f → length f.shows ≤ show → subs_from f alloc show count ≡ []
none_past f alloc show zero kept past = refl
none_past f alloc show (suc count) kept past = by (sub_at f (sub_of show alloc)) refl (none_past f alloc (show + 1) count kept (omega (arith, past)))
  where
    by : (o : Option SubRow) → sub_at f (sub_of show alloc) ≡ o → subs_from f alloc (show + 1) count ≡ [] → with_found o (subs_from f alloc (show + 1) count) ≡ []
    by None found later = later
    by (Some s) found later = absurd (omega (arith, past, show_there f alloc show s kept found))

-- so that none is read there
pub none_read : (f : Farm) (alloc show : ℕ) (subs : List SubRow) → KeepsRows f → subs ≡ [] → show ≡ length f.shows → subs ≡ sorted_subs f (subs_from f alloc show (MOST_SHOWS - show))
none_read f alloc show subs kept none is = none ∙ ap (sorted_subs f) (sym (none_past f alloc show (MOST_SHOWS - show) kept (omega (arith, is))))

from_step : (f : Farm) (alloc show : ℕ) → 0 < show → show ≤ MOST_SHOWS
    → subs_from f alloc (show - 1) (MOST_SHOWS - (show - 1)) ≡ with_found (sub_at f (sub_of (show - 1) alloc)) (subs_from f alloc show (MOST_SHOWS - show))
from_step f alloc show some most =
    let count : MOST_SHOWS - (show - 1) ≡ suc (MOST_SHOWS - show) = omega arith in
    let next : (show - 1) + 1 ≡ show = omega arith in
    ap (subs_from f alloc (show - 1)) count ∙ ap (λ n. with_found (sub_at f (sub_of (show - 1) alloc)) (subs_from f alloc n (MOST_SHOWS - show))) next

-- a show without a subscription
pub none_sorted : (f : Farm) (alloc show : ℕ) (subs : List SubRow) → 0 < show → show ≤ MOST_SHOWS → sub_at f (sub_of (show - 1) alloc) ≡ None → subs ≡ sorted_subs f (subs_from f alloc show (MOST_SHOWS - show))
    → subs ≡ sorted_subs f (subs_from f alloc (show - 1) (MOST_SHOWS - (show - 1)))
none_sorted f alloc show subs some most none had =
    had ∙ (ap (λ o. sorted_subs f (with_found o (subs_from f alloc show (MOST_SHOWS - show)))) (sym none) ∙ ap (sorted_subs f) (sym (from_step f alloc show some most)))

-- and one with
pub some_sorted : (f : Farm) (alloc show : ℕ) (s : SubRow) (subs new : List SubRow) → 0 < show → show ≤ MOST_SHOWS → sub_at f (sub_of (show - 1) alloc) ≡ Some s → subs ≡ sorted_subs f (subs_from f alloc show (MOST_SHOWS - show))
    → new ≡ insert_sub f s subs → new ≡ sorted_subs f (subs_from f alloc (show - 1) (MOST_SHOWS - (show - 1)))
some_sorted f alloc show s subs new some most found had put =
    put
    ∙ (ap (insert_sub f s) had
    ∙ (ap (λ o. sorted_subs f (with_found o (subs_from f alloc show (MOST_SHOWS - show)))) (sym found) ∙ ap (sorted_subs f) (sym (from_step f alloc show some most))))

-- ---- where one is put

module _ (f : Farm) (x : SubRow) where
  -- whether it comes after another
  abbrev pub comes_after : SubRow → Bool
  comes_after y = is_gt (sub_cmp f x y)

  insert_step : (b : Bool) (n : ℕ) (y : SubRow) (ys : List SubRow) → insert_sub f x ys ≡ take n ys ++ x ∷ drop n ys
      → cond b (y ∷ insert_sub f x ys) (x ∷ y ∷ ys) ≡ take (cond b (1 + n) 0) (y ∷ ys) ++ x ∷ drop (cond b (1 + n) 0) (y ∷ ys)
  insert_step true n y ys e = rw one-add (ap (λ zs. y ∷ zs) e)
  insert_step false n y ys e = refl

  -- after those at the front that it comes after
  pub insert_is : (ys : List SubRow) → insert_sub f x ys ≡ insert ys (prefix_len comes_after ys) x
  insert_is [] = refl
  insert_is (y ∷ ys) = insert_step (comes_after y) (prefix_len comes_after ys) y ys (insert_is ys)

-- down to the first show
pub all_sorted : (f : Farm) (alloc show : ℕ) (subs : List SubRow) → show ≡ 0 → subs ≡ sorted_subs f (subs_from f alloc show (MOST_SHOWS - show)) → subs ≡ sorted_subs f (subs_from f alloc 0 MOST_SHOWS)
all_sorted f alloc show subs none had = subst (λ n. subs ≡ sorted_subs f (subs_from f alloc n (MOST_SHOWS - n))) none had
