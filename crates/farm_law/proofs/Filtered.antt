-- Lists without some of their items: what is found, tests of all, counts, names that differ and keys that rise.
use Rattle.std.proofs.Common.{◌≡◌, ℕ, suc, zero, ◌+◌, ◌≤◌, Bool, true, false, cond, leb, ◌||◌, ◌⊎◌, inl, inr, List, [], ◌∷◌, ◌++◌, length, map, Some, sym, ap, ◌∙◌, subst, arith, refl}
use Rattle.std.specs.List.{AllByRecursion, IsDistinct, filter, find, list_all, slice_get}
use Rattle.std.specs.Cmp.Derive.{both_true}
use Rattle.std.proofs.lemmas.Bool.{cases_lt, false≢true, le-leb, leb-true}
use Rattle.std.proofs.lemmas.List.Elements.{filter-append}
use Rattle.std.proofs.lemmas.Map.Keys.{IsDistinct-cons, IsDistinct-head, IsDistinct-tail}
use Rattle.std.proofs.lemmas.Option.{none-some, same_Some}
use Rattle.farm_types.specs.Rising.{IsRising}
use Rattle.farm_types.proofs.Lists.{and_both}
use Rattle.farm_types.proofs.Passes.{cond_each}
use Rattle.farm_law.proofs.KeptJobsLists.{rising_lower}
use Rattle.farm_law.proofs.KeptLists.{list_all-weaker}

-- ---- one of two tests

either_left : (a b : Bool) → a ≡ true → (a || b) ≡ true
either_left a b h = rw h refl

either_right : (a b : Bool) → b ≡ true → (a || b) ≡ true
either_right true b h = refl
either_right false b h = h

later_least : (a n m : ℕ) (b : Bool) → n ≤ m → (b || leb m a) ≡ true → (b || leb n a) ≡ true
later_least a n m true less h = refl
later_least a n m false less h = le-leb n a (omega (arith, leb-true m a h, less))

module _ {X : Type 0} where
  -- ---- what is found

  found_step : (test keep : X → Bool) (b c : Bool) (y x : X) (ys kept : List X) → test y ≡ b → keep y ≡ c → keep x ≡ true → (find test ys ≡ Some x → find test kept ≡ Some x) → cond b (Some y) (find test ys) ≡ Some x
      → find test (cond c (y ∷ kept) kept) ≡ Some x
  found_step test keep true true y x ys kept is stays here later at = ap (λ (v : Bool). cond v (Some y) (find test kept)) is ∙ at
  found_step test keep true false y x ys kept is stays here later at = absurd (false≢true (sym stays ∙ (ap keep (same_Some y x at) ∙ here)))
  found_step test keep false true y x ys kept is stays here later at = ap (λ (v : Bool). cond v (Some y) (find test kept)) is ∙ later at
  found_step test keep false false y x ys kept is stays here later at = later at

  -- an item that is found and stays is found still
  pub found_kept : (test keep : X → Bool) (xs : List X) (x : X) → find test xs ≡ Some x → keep x ≡ true → find test (filter keep xs) ≡ Some x
  found_kept test keep [] x at here = absurd (none-some x at)
  found_kept test keep (y ∷ ys) x at here =
      found_step test keep (test y) (keep y) y x ys (filter keep ys) refl refl here (λ later. found_kept test keep ys x later here) at

  find_step : (test keep : X → Bool) (b c : Bool) (y : X) (ys kept : List X) → test y ≡ b → keep y ≡ c → (test y ≡ true → keep y ≡ true) → find test kept ≡ find test ys → find test (cond c (y ∷ kept) kept) ≡ cond b (Some y) (find test ys)
  find_step test keep b true y ys kept is stays less later = ap (λ (v : Bool). cond v (Some y) (find test kept)) is ∙ ap (cond b (Some y)) later
  find_step test keep true false y ys kept is stays less later = absurd (false≢true (sym stays ∙ less is))
  find_step test keep false false y ys kept is stays less later = later

  -- where all stay that are looked for, the same is found
  pub find_kept : (test keep : X → Bool) → ((x : X) → test x ≡ true → keep x ≡ true) → (xs : List X) → find test (filter keep xs) ≡ find test xs
  find_kept test keep less [] = refl
  find_kept test keep less (y ∷ ys) = find_step test keep (test y) (keep y) y ys (filter keep ys) refl refl (less y) (find_kept test keep less ys)

  at_step : (keep : X → Bool) (b : Bool) (y x : X) (ys kept : List X) (n : ℕ) → keep y ≡ b → ((m : ℕ) → slice_get kept m ≡ Some x → (k : ℕ) × (slice_get ys k ≡ Some x) × (keep x ≡ true)) → slice_get (cond b (y ∷ kept) kept) n ≡ Some x
      → (k : ℕ) × (slice_get (y ∷ ys) k ≡ Some x) × (keep x ≡ true)
  at_step keep true y x ys kept zero is later at = (0, at, subst (λ (z : X). keep z ≡ true) (same_Some y x at) is)
  at_step keep true y x ys kept (suc n) is later at = let found = later n at in (suc found.0, found.1, found.2)
  at_step keep false y x ys kept n is later at = let found = later n at in (suc found.0, found.1, found.2)

  -- an item that stayed was there
  pub at_kept : (keep : X → Bool) (xs : List X) (n : ℕ) (x : X) → slice_get (filter keep xs) n ≡ Some x → (k : ℕ) × (slice_get xs k ≡ Some x) × (keep x ≡ true)
  at_kept keep [] n x at = absurd (none-some x at)
  at_kept keep (y ∷ ys) n x at = at_step keep (keep y) y x ys (filter keep ys) n refl (λ m here. at_kept keep ys m x here) at

  -- an item that passes stays
  pub kept_at : (keep : X → Bool) (xs : List X) (m : ℕ) (x : X) → slice_get xs m ≡ Some x → keep x ≡ true → (n : ℕ) × (slice_get (filter keep xs) n ≡ Some x)
  kept_at keep [] m x at here = absurd (none-some x at)
  kept_at keep (y ∷ ys) zero x at here = (
    0,
    subst (λ (b : Bool). slice_get (cond b (y ∷ filter keep ys) (filter keep ys)) 0 ≡ Some x) (sym (ap keep (same_Some y x at) ∙ here)) at,
  )
  kept_at keep (y ∷ ys) (suc m) x at here =
      let rest = kept_at keep ys m x at here in
      cond_each (λ (zs : List X). (n : ℕ) × (slice_get zs n ≡ Some x)) (keep y) (y ∷ filter keep ys) (filter keep ys) (suc rest.0, rest.1) rest

  -- one between two lists
  pub filter_among : (p : X → Bool) (before : List X) (x : X) (behind : List X) (b : Bool) → p x ≡ b → filter p (before ++ x ∷ behind) ≡ filter p before ++ cond b (x ∷ filter p behind) (filter p behind)
  filter_among p before x behind b is = filter-append p before (x ∷ behind) ∙ ap (λ (v : Bool). filter p before ++ cond v (x ∷ filter p behind) (filter p behind)) is

  -- ---- two tests

  within_step : (p q : X → Bool) (c b : Bool) (y : X) (ps qs : List X) → p y ≡ c → q y ≡ b → (p y ≡ true → q y ≡ true) → filter p qs ≡ ps → filter p (cond b (y ∷ qs) qs) ≡ cond c (y ∷ ps) ps
  within_step p q true true y ps qs is_p is_q less same = ap (λ (v : Bool). cond v (y ∷ filter p qs) (filter p qs)) is_p ∙ ap (λ (zs : List X). y ∷ zs) same
  within_step p q true false y ps qs is_p is_q less same = absurd (false≢true (sym is_q ∙ less is_p))
  within_step p q false true y ps qs is_p is_q less same = ap (λ (v : Bool). cond v (y ∷ filter p qs) (filter p qs)) is_p ∙ same
  within_step p q false false y ps qs is_p is_q less same = same

  -- where all stay that pass, those that pass are the same
  pub filter_within : (p q : X → Bool) → ((x : X) → p x ≡ true → q x ≡ true) → (xs : List X) → filter p (filter q xs) ≡ filter p xs
  filter_within p q less [] = refl
  filter_within p q less (y ∷ ys) = within_step p q (p y) (q y) y (filter p ys) (filter q ys) refl refl (less y) (filter_within p q less ys)

  swap_step : (p q : X → Bool) (b c : Bool) (y : X) (ps qs : List X) → p y ≡ c → q y ≡ b → filter p qs ≡ filter q ps → filter p (cond b (y ∷ qs) qs) ≡ filter q (cond c (y ∷ ps) ps)
  swap_step p q true true y ps qs is_p is_q same =
      ap (λ (v : Bool). cond v (y ∷ filter p qs) (filter p qs)) is_p
      ∙ (ap (λ (zs : List X). y ∷ zs) same ∙ sym (ap (λ (v : Bool). cond v (y ∷ filter q ps) (filter q ps)) is_q))
  swap_step p q true false y ps qs is_p is_q same = ap (λ (v : Bool). cond v (y ∷ filter p qs) (filter p qs)) is_p ∙ same
  swap_step p q false true y ps qs is_p is_q same = same ∙ sym (ap (λ (v : Bool). cond v (y ∷ filter q ps) (filter q ps)) is_q)
  swap_step p q false false y ps qs is_p is_q same = same

  -- in either order
  pub filter_swap : (p q : X → Bool) (xs : List X) → filter p (filter q xs) ≡ filter q (filter p xs)
  filter_swap p q [] = refl
  filter_swap p q (y ∷ ys) = swap_step p q (q y) (p y) y (filter p ys) (filter q ys) refl refl (filter_swap p q ys)

  -- ---- counts

  pub fewer_kept : (keep : X → Bool) (xs : List X) → length (filter keep xs) ≤ length xs
  fewer_kept keep [] = omega arith
  fewer_kept keep (y ∷ ys) =
      cond_each (λ (zs : List X). length zs ≤ length (y ∷ ys)) (keep y) (y ∷ filter keep ys) (filter keep ys) (omega (arith, fewer_kept keep ys)) (omega (arith, fewer_kept keep ys))

  gone_step : (b : Bool) (y : X) (ys kept : List X) → b ≡ false → length kept ≤ length ys → length (cond b (y ∷ kept) kept) + 1 ≤ length (y ∷ ys)
  gone_step true y ys kept goes few = absurd (false≢true (sym goes))
  gone_step false y ys kept goes few = omega (arith, few)

  -- one goes at least
  pub one_gone : (keep : X → Bool) (xs : List X) (n : ℕ) (x : X) → slice_get xs n ≡ Some x → keep x ≡ false → length (filter keep xs) + 1 ≤ length xs
  one_gone keep [] n x at goes = absurd (none-some x at)
  one_gone keep (y ∷ ys) zero x at goes = gone_step (keep y) y ys (filter keep ys) (ap keep (same_Some y x at) ∙ goes) (fewer_kept keep ys)
  one_gone keep (y ∷ ys) (suc n) x at goes =
      let rest = one_gone keep ys n x at goes in
      cond_each (λ (zs : List X). length zs + 1 ≤ length (y ∷ ys)) (keep y) (y ∷ filter keep ys) (filter keep ys) (omega (arith, rest)) (omega (arith, rest))

  -- ---- tests of all, names and keys

  pub list_all-filter : (test keep : X → Bool) (xs : List X) → list_all test xs ≡ true → list_all test (filter keep xs) ≡ true
  list_all-filter test keep [] all = refl
  list_all-filter test keep (y ∷ ys) all =
      let both = and_both (test y) (list_all test ys) all in
      let rest = list_all-filter test keep ys both.1 in
      cond_each (λ (zs : List X). list_all test zs ≡ true) (keep y) (y ∷ filter keep ys) (filter keep ys) (both_true both.0 rest) rest

  each-filter : {Y : Type 0} (label : X → Y) (P : Y → Type 0) (keep : X → Bool) (xs : List X) → AllByRecursion P (map label xs) → AllByRecursion P (map label (filter keep xs))
  each-filter label P keep [] all = tt
  each-filter label P keep (y ∷ ys) all =
      let rest = each-filter label P keep ys all.1 in
      cond_each (λ (zs : List X). AllByRecursion P (map label zs)) (keep y) (y ∷ filter keep ys) (filter keep ys) (all.0, rest) rest

  pub differ-filter : {Y : Type 0} (label : X → Y) (e : Y → Y → Bool) (keep : X → Bool) (xs : List X) → IsDistinct e (map label xs) → IsDistinct e (map label (filter keep xs))
  differ-filter label e keep [] differ = differ
  differ-filter label e keep (y ∷ ys) differ =
      let rest = differ-filter label e keep ys (IsDistinct-tail e (label y) (map label ys) differ) in
      cond_each (λ (zs : List X). IsDistinct e (map label zs)) (keep y) (y ∷ filter keep ys) (filter keep ys)
      (IsDistinct-cons e (label y) (map label (filter keep ys)) (each-filter label (λ z. e (label y) z ≡ false) keep ys (IsDistinct-head e (label y) (map label ys) differ)) rest)
      rest

  pub rising-filter : (key : X → ℕ) (keep : X → Bool) (low : ℕ) (xs : List X) (high : ℕ) → IsRising key low xs high → IsRising key low (filter keep xs) high
  rising-filter key keep low [] high rise = rise
  rising-filter key keep low (x ∷ xs) high rise =
      let rest = rising-filter key keep (key x + 1) xs high rise.1 in
      cond_each (λ (zs : List X). IsRising key low zs high) (keep x) (x ∷ filter keep xs) (filter keep xs) (rise.0, rest) (rising_lower key low (key x + 1) (filter keep xs) high (omega (arith, rise.0)) rest)

  -- ---- the first by a key

  -- of those that aren't skipped one has the least key, or all are skipped
  abbrev pub HasLeast : (X → Bool) → (X → ℕ) → List X → Type 0
  HasLeast skips key xs =
      (list_all skips xs ≡ true) ⊎ ((m : ℕ) × (y : X) × (slice_get xs m ≡ Some y) × (skips y ≡ false) × (list_all (λ k. skips k || leb (key y) (key k)) xs ≡ true))

  least_step : (skips : X → Bool) (key : X → ℕ) (b : Bool) (z : X) (zs : List X) → skips z ≡ b → HasLeast skips key zs → HasLeast skips key (z ∷ zs)
  least_step skips key true z zs is (inl all) = inl (both_true is all)
  least_step skips key true z zs is (inr least) = inr (suc least.0, least.1, least.2, least.3, both_true (either_left (skips z) (leb (key least.1) (key z)) is) least.4)
  least_step skips key false z zs is (inl all) =
      inr (
        0,
        z,
        refl,
        is,
        both_true (either_right (skips z) (leb (key z) (key z)) (le-leb (key z) (key z) (omega arith)))
            (list_all-weaker skips (λ k. skips k || leb (key z) (key k)) (λ k h. either_left (skips k) (leb (key z) (key k)) h) zs all),
      )
  least_step skips key false z zs is (inr least) = elim (cases_lt (key least.1) (key z)) [
    | inl above ↦ inr (suc least.0, least.1, least.2, least.3, both_true (either_right (skips z) (leb (key least.1) (key z)) (le-leb (key least.1) (key z) (omega (arith, above)))) least.4)
    | inr within ↦ inr (
      0,
      z,
      refl,
      is,
      both_true (either_right (skips z) (leb (key z) (key z)) (le-leb (key z) (key z) (omega arith)))
          (list_all-weaker (λ k. skips k || leb (key least.1) (key k)) (λ k. skips k || leb (key z) (key k)) (λ k h. later_least (key k) (key z) (key least.1) (skips k) within h) zs least.4),
    )
  ]

  pub has_least : (skips : X → Bool) (key : X → ℕ) (xs : List X) → HasLeast skips key xs
  has_least skips key [] = inl refl
  has_least skips key (z ∷ zs) = least_step skips key (skips z) z zs refl (has_least skips key zs)

-- ---- one more among those that differ

module _ {Y : Type 0} where
  each-among : (P : Y → Type 0) (xs ys : List Y) (z : Y) → AllByRecursion P (xs ++ ys) → P z → AllByRecursion P (xs ++ z ∷ ys)
  each-among P [] ys z all here = (here, all)
  each-among P (x ∷ xs) ys z all here = (all.0, each-among P xs ys z all.1 here)

  pub differ-among : (e : Y → Y → Bool) (xs ys : List Y) (z : Y) → IsDistinct e (xs ++ ys) → AllByRecursion (λ x. e x z ≡ false) xs → AllByRecursion (λ y. e z y ≡ false) ys → IsDistinct e (xs ++ z ∷ ys)
  differ-among e [] ys z differ before behind = IsDistinct-cons e z ys behind differ
  differ-among e (x ∷ xs) ys z differ before behind =
      IsDistinct-cons e x (xs ++ z ∷ ys) (each-among (λ y. e x y ≡ false) xs ys z (IsDistinct-head e x (xs ++ ys) differ) before.0)
      (differ-among e xs ys z (IsDistinct-tail e x (xs ++ ys) differ) before.1 behind)
