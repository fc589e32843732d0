-- The edges of a group are its targets.
use Rattle.std.proofs.Common.{◌≡◌, ◌≢◌, ◌≤◌, ◌<◌, ◌^◌, ℕ, zero, suc, ◌+◌, Bool, true, false, not, cond, eqb, ltb, List, [], ◌∷◌, ◌++◌, map, length, Option, Some, None, refl, sym, ap, subst, ◌∙◌, ◌⊎◌, inl, inr, arith}
use Rattle.std.specs.Prelude.{◌&&◌, ◌||◌}
use Rattle.std.specs.List.{slice_get, count_by, list_all, list_any, All}
use Rattle.std.proofs.lemmas.Bool.{cases_Bool, cases_lt, eq-eqb, false≢true, eqb-true, ne_eqb, lt-ltb, le-ltb, ltb-true}
use Rattle.std.proofs.lemmas.List.Sums.{count_by-le-length, sum_by-append}
use Rattle.std.proofs.lemmas.Option.{get_or_from_slice_get, none-some, same_Some, slice_get_within}
use Rattle.farm_types.specs.declared.depend.Group.{Group}
use Rattle.farm_types.specs.declared.limits.TheConstants.{SLOT_LIMIT}
use Rattle.farm_types.specs.Depends.{are_done}
use Rattle.farm_types.proofs.Lists.{and_both}
use Rattle.depend_edges.specs.Aims.{Aim, aim_at, aims_from}
use Rattle.depend_edges.specs.Groups.{IsGroup, is_below}
use Rattle.depend_edges.specs.Listed.{aim_of, is_enough}
use Rattle.depend_edges.specs.declared.links.Edge.{Edge}
use Rattle.depend_edges.proofs.Counts.{count_by-cons, one_if, sum_by-mapped}

-- ---- how many edges of a group pass a test of their slots

abbrev aims_at : ℕ → (ℕ → Bool) → Aim → Bool
aims_at j test a = eqb a.group j && test a.slot

abbrev pub edges_at : ℕ → (ℕ → Bool) → Edge → Bool
edges_at j test e = eqb e.group j && test e.slot

-- how many targets of a group pass the test, none where there is no group
abbrev pub targets_in : (ℕ → Bool) → Option Group → ℕ
targets_in test None = 0
targets_in test (Some g) = count_by test g.targets

here : (j n : ℕ) (test : ℕ → Bool) (ts : List ℕ) → n ≡ j → count_by (aims_at j test) (map (aim_at n) ts) ≡ count_by test ts
here j n test [] same = refl
here j n test (t ∷ ts) same =
    let one : (eqb n j && test t) ≡ test t = ap (λ b. b && test t) (eq-eqb n j same) in
    omega (arith, count_by-cons (aims_at j test) (aim_at n t) (map (aim_at n) ts), count_by-cons test t ts, ap one_if one, here j n test ts same)

elsewhere : (j n : ℕ) (test : ℕ → Bool) (ts : List ℕ) → n ≢ j → count_by (aims_at j test) (map (aim_at n) ts) ≡ 0
elsewhere j n test [] apart = refl
elsewhere j n test (t ∷ ts) apart =
    let none : (eqb n j && test t) ≡ false = ap (λ b. b && test t) (ne_eqb n j apart) in
    omega (arith, count_by-cons (aims_at j test) (aim_at n t) (map (aim_at n) ts), ap one_if none, elsewhere j n test ts apart)

both : (j : ℕ) (test : ℕ → Bool) (xs ys : List Aim) → count_by (aims_at j test) (xs ++ ys) ≡ count_by (aims_at j test) xs + count_by (aims_at j test) ys
both j test xs ys = sum_by-append (λ a. cond (aims_at j test a) 1 0) xs ys

later : (j n : ℕ) (test : ℕ → Bool) (gs : List Group) → j < n → count_by (aims_at j test) (aims_from n gs) ≡ 0
later j n test [] above = refl
later j n test (g ∷ gs) above =
    omega (arith, both j test (map (aim_at n) g.targets) (aims_from (n + 1) gs), elsewhere j n test g.targets (λ e. absurd (omega arith)), later j (n + 1) test gs (omega arith))

aims_counted : (j n k : ℕ) (test : ℕ → Bool) (gs : List Group) → j ≡ n + k → count_by (aims_at j test) (aims_from n gs) ≡ targets_in test (slice_get gs k)
aims_counted j n k test [] is = refl
aims_counted j n zero test (g ∷ gs) is =
    omega (arith, both j test (map (aim_at n) g.targets) (aims_from (n + 1) gs), here j n test g.targets (omega arith), later j (n + 1) test gs (omega arith))
aims_counted j n (suc k) test (g ∷ gs) is =
    omega (arith, both j test (map (aim_at n) g.targets) (aims_from (n + 1) gs), elsewhere j n test g.targets (λ e. absurd (omega arith)), aims_counted j (n + 1) k test gs (omega arith))

pub edges_counted : (edges : List Edge) (gs : List Group) (k : ℕ) (test : ℕ → Bool) → map aim_of edges ≡ aims_from 0 gs → count_by (edges_at k test) edges ≡ targets_in test (slice_get gs k)
edges_counted edges gs k test aims =
    let mapped : count_by (aims_at k test) (map aim_of edges) ≡ count_by (edges_at k test) edges = sum_by-mapped (λ a. cond (aims_at k test a) 1 0) aim_of edges in
    sym mapped ∙ (ap (count_by (aims_at k test)) aims ∙ aims_counted k 0 k test gs (omega arith))

-- ---- one edge

pub count_by-there : {X : Type 0} (test : X → Bool) (xs : List X) (i : ℕ) (x : X) → slice_get xs i ≡ Some x → test x ≡ true → 1 ≤ count_by test xs
count_by-there test [] i x at passes = absurd (none-some x at)
count_by-there test (y ∷ ys) zero x at passes = omega (arith, count_by-cons test y ys, ap one_if (ap test (same_Some y x at) ∙ passes))
count_by-there test (y ∷ ys) (suc i) x at passes = omega (arith, count_by-cons test y ys, count_by-there test ys i x at passes)

pub counted_any : (test : ℕ → Bool) (ts : List ℕ) → 1 ≤ count_by test ts → list_any test ts ≡ true
counted_any test [] some = absurd (omega arith)
counted_any test (t ∷ ts) some = by_first (test t) refl (counted_any test ts) where
  by_first : (b : Bool) → test t ≡ b → (1 ≤ count_by test ts → list_any test ts ≡ true) → (test t || list_any test ts) ≡ true
  by_first true is more = ap (λ b. b || list_any test ts) is
  by_first false is more = ap (λ b. b || list_any test ts) is ∙ more (omega (arith, count_by-cons test t ts, ap one_if is))

module _ (edges : List Edge) (gs : List Group) (aims : map aim_of edges ≡ aims_from 0 gs) (i : ℕ) (e : Edge) (at : slice_get edges i ≡ Some e) where
  counted : (test : ℕ → Bool) → test e.slot ≡ true → 1 ≤ targets_in test (slice_get gs e.group)
  counted test passes =
      let both_pass : (eqb e.group e.group && test e.slot) ≡ true = ap (λ b. b && test e.slot) (eq-eqb e.group e.group refl) ∙ passes in
      omega (arith, count_by-there (edges_at e.group test) edges i e at both_pass, edges_counted edges gs e.group test aims)

  group_in : (o : Option Group) → slice_get gs e.group ≡ o → 1 ≤ targets_in (λ t. true) o → (g : Group) × (slice_get gs e.group ≡ Some g)
  group_in None is some = absurd (omega arith)
  group_in (Some g) is some = (g, is)

  -- its group is there
  pub group_of_edge : (g : Group) × (slice_get gs e.group ≡ Some g)
  group_of_edge = group_in (slice_get gs e.group) refl (counted (λ t. true) refl)

  -- its slot is a target of its group
  pub target_of_edge : (g : Group) → slice_get gs e.group ≡ Some g → list_any (λ t. eqb t e.slot) g.targets ≡ true
  target_of_edge g at_group =
      counted_any (λ t. eqb t e.slot) g.targets (subst (λ (o : Option Group). 1 ≤ targets_in (λ t. eqb t e.slot) o) at_group (counted (λ t. eqb t e.slot) (eq-eqb e.slot e.slot refl)))

-- ---- whether the targets are done, by how many aren't

undone_by : (flag : ℕ → Bool) → ℕ → Bool
undone_by flag t = not (flag t)

all_by : (flag : ℕ → Bool) (ts : List ℕ) → list_all flag ts ≡ eqb (count_by (λ t. not (flag t)) ts) 0
all_by flag [] = refl
all_by flag (t ∷ ts) = by_first (flag t) refl (all_by flag ts) where
  by_first : (b : Bool) → flag t ≡ b → list_all flag ts ≡ eqb (count_by (λ t. not (flag t)) ts) 0 → (flag t && list_all flag ts) ≡ eqb (count_by (λ t. not (flag t)) (t ∷ ts)) 0
  by_first true is more =
      let count : count_by (λ t. not (flag t)) (t ∷ ts) ≡ count_by (λ t. not (flag t)) ts = omega (arith, count_by-cons (λ t. not (flag t)) t ts, ap (λ b. one_if (not b)) is) in
      ap (λ b. b && list_all flag ts) is ∙ (more ∙ ap (λ n. eqb n 0) (sym count))
  by_first false is more =
      ap (λ b. b && list_all flag ts) is ∙ sym (ne_eqb (count_by (λ t. not (flag t)) (t ∷ ts)) 0 (λ none. absurd (omega (arith, count_by-cons (λ t. not (flag t)) t ts, ap (λ b. one_if (not b)) is))))

any_by : (flag : ℕ → Bool) (ts : List ℕ) → list_any flag ts ≡ ltb (count_by (λ t. not (flag t)) ts) (length ts)
any_by flag [] = refl
any_by flag (t ∷ ts) = by_first (flag t) refl (any_by flag ts) (cases_lt (count_by (λ t. not (flag t)) ts) (length ts)) where
  by_first : (b : Bool) → flag t ≡ b → list_any flag ts ≡ ltb (count_by (λ x. not (flag x)) ts) (length ts) → (count_by (λ x. not (flag x)) ts < length ts) ⊎ (length ts ≤ count_by (λ x. not (flag x)) ts) → (flag t || list_any flag ts) ≡ ltb (count_by (λ x. not (flag x)) (t ∷ ts)) (length (t ∷ ts))
  by_first true is more order =
      ap (λ b. b || list_any flag ts) is ∙ sym (lt-ltb (count_by (λ x. not (flag x)) (t ∷ ts)) (length (t ∷ ts)) (omega (arith, count_by-cons (λ t. not (flag t)) t ts, ap (λ b. one_if (not b)) is, count_by-le-length (λ t. not (flag t)) ts)))
  by_first false is more (inl lower) =
      ap (λ b. b || list_any flag ts) is ∙ (more ∙ (lt-ltb (count_by (λ x. not (flag x)) ts) (length ts) lower ∙ sym (lt-ltb (count_by (λ x. not (flag x)) (t ∷ ts)) (length (t ∷ ts)) (omega (arith, count_by-cons (λ t. not (flag t)) t ts, ap (λ b. one_if (not b)) is)))))
  by_first false is more (inr upper) =
      ap (λ b. b || list_any flag ts) is ∙ (more ∙ (le-ltb (count_by (λ x. not (flag x)) ts) (length ts) upper ∙ sym (le-ltb (count_by (λ x. not (flag x)) (t ∷ ts)) (length (t ∷ ts)) (omega (arith, count_by-cons (λ t. not (flag t)) t ts, ap (λ b. one_if (not b)) is)))))

pub are_done_by : (flag : ℕ → Bool) (g : Group) → are_done flag g ≡ is_enough g (count_by (λ t. not (flag t)) g.targets)
are_done_by flag g = by_kind g.any where
  by_kind : (b : Bool) → cond b (list_any flag g.targets) (list_all flag g.targets) ≡ cond b (ltb (count_by (λ t. not (flag t)) g.targets) (length g.targets)) (eqb (count_by (λ t. not (flag t)) g.targets) 0)
  by_kind true = any_by flag g.targets
  by_kind false = all_by flag g.targets

-- fewer that aren't done are enough too
pub enough_fewer : (g : Group) (few more : ℕ) → few ≤ more → is_enough g more ≡ true → is_enough g few ≡ true
enough_fewer g few more less enough = by_kind g.any enough where
  by_kind : (b : Bool) → cond b (ltb more (length g.targets)) (eqb more 0) ≡ true → cond b (ltb few (length g.targets)) (eqb few 0) ≡ true
  by_kind true enough = lt-ltb few (length g.targets) (omega (arith, ltb-true more (length g.targets) enough))
  by_kind false enough = eq-eqb few 0 (omega (arith, eqb-true more 0 enough))

-- ---- the edges of groups as they may be

any_all : (test : ℕ → Bool) (ts : List ℕ) (s : ℕ) → list_any (λ t. eqb t s) ts ≡ true → list_all test ts ≡ true → test s ≡ true
any_all test [] s some all = absurd (false≢true some)
any_all test (t ∷ ts) s some all = by_first (cases_Bool (eqb t s)) (and_both (test t) (list_all test ts) all) (any_all test ts s) where
  by_first : (eqb t s ≡ true) ⊎ (eqb t s ≡ false) → (test t ≡ true) × (list_all test ts ≡ true) → (list_any (λ x. eqb x s) ts ≡ true → list_all test ts ≡ true → test s ≡ true) → test s ≡ true
  by_first (inl same) both more = subst (λ (x : ℕ). test x ≡ true) (eqb-true t s same) both.0
  by_first (inr other) both more = more (sym (ap (λ b. b || list_any (λ x. eqb x s) ts) other) ∙ some) both.1

pub group_at : (gs : List Group) → All IsGroup gs → (k : ℕ) (g : Group) → slice_get gs k ≡ Some g → IsGroup g
group_at gs each k g at = subst IsGroup (get_or_from_slice_get gs k g g at) (each k g (slice_get_within gs k g at))

module _ (edges : List Edge) (gs : List Group) (aims : map aim_of edges ≡ aims_from 0 gs) where
  pub slots_within : All IsGroup gs → (i : ℕ) (e : Edge) → slice_get edges i ≡ Some e → e.slot < SLOT_LIMIT
  slots_within each i e at =
      let g = group_of_edge edges gs aims i e at in
      ltb-true e.slot SLOT_LIMIT (any_all is_below g.0.targets e.slot (target_of_edge edges gs aims i e at g.0 g.1) (group_at gs each e.group g.0 g.1).targets_within)

  all_counted_true : (ts : List ℕ) → count_by (λ t. true) ts ≡ length ts
  all_counted_true [] = refl
  all_counted_true (t ∷ ts) = omega (arith, count_by-cons (λ t. true) t ts, all_counted_true ts)

  pub targets_small : length edges < 2 ^ 32 → (k : ℕ) (g : Group) → slice_get gs k ≡ Some g → length g.targets < 2 ^ 32
  targets_small within k g at =
      let counted = edges_counted edges gs k (λ t. true) aims ∙ (ap (targets_in (λ t. true)) at ∙ all_counted_true g.targets) in
      omega (arith, count_by-le-length (edges_at k (λ t. true)) edges)
