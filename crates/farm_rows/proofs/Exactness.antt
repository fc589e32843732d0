-- What was kept of changes from the last one on is exactly what differs.
use Rattle.std.proofs.Common.{◌≡◌, ◌⊎◌, inl, inr, ℕ, zero, suc, ◌&&◌, ◌||◌, Bool, true, false, not, cond, eqb, List, [], ◌∷◌, ◌++◌, length, Option, None, Some, is_some, refl, sym, ap, subst, ◌∙◌}
use Rattle.std.specs.List.{list_any, slice_get}
use Rattle.std.proofs.lemmas.Bool.{eq-eqb, eqb-true, false_from_ne_true, false≢true, true_from_ne_false}
use Rattle.std.proofs.lemmas.Option.{none-some}
use Rattle.std.specs.Cmp.Derive.{both_true}
use Rattle.farm_types.specs.Farm.{Farm}
use Rattle.farm_types.proofs.Changed.{appended_each}
use Rattle.farm_types.proofs.Lists.{and_both}
use Rattle.farm_rows.specs.declared.farm_row.FarmRow.{FarmRow}
use Rattle.farm_rows.specs.declared.row_key.RowKey.{RowKey}
use Rattle.farm_rows.specs.declared.row_key.RowKey.TheVariants as key
use Rattle.farm_rows.specs.declared.row_change.RowChange.{RowChange}
use Rattle.farm_rows.specs.declared.row_change.RowChange.TheVariants as change
use Rattle.farm_rows.specs.Changes.{Differs, NamesExactly, change_key, is_key, is_named_by, row_after, row_at, row_by, row_key}
use Rattle.farm_rows.proofs.MadeRows.{is_key-same, is_key-true, row_after-append}
use Rattle.farm_rows.proofs.Turned.{Turned}
use Rattle.farm_rows.specs.Keys.{ChangesNothing, has_parts, is_parts, key_parts, with_parts}

-- ---- keys as numbers

abbrev from_parts : ℕ → ℕ → ℕ → RowKey
from_parts kind a b =
    cond (eqb kind 0) key.Head (cond (eqb kind 1) (key.Show a) (cond (eqb kind 2) (key.Alloc a) (cond (eqb kind 3) (key.Sub a) (cond (eqb kind 4) (key.Host a)
    (cond (eqb kind 5) (key.Job a) (cond (eqb kind 6) (key.Layer a b) (cond (eqb kind 7) (key.Frame a) (cond (eqb kind 8) (key.Depend a)
    (cond (eqb kind 9) (key.Met a b) (key.Limit a))))))))))

abbrev key_back : ℕ × ℕ × ℕ → RowKey
key_back p = from_parts p.0 p.1 p.2

back : (k : RowKey) → key_back (key_parts k) ≡ k
back key.Head = refl
back (key.Show a) = refl
back (key.Alloc a) = refl
back (key.Sub a) = refl
back (key.Host a) = refl
back (key.Job a) = refl
back (key.Layer a m) = refl
back (key.Frame a) = refl
back (key.Depend a) = refl
back (key.Met a m) = refl
back (key.Limit a) = refl

parts_same : (a : ℕ × ℕ × ℕ) → is_parts a a ≡ true
parts_same a = both_true (both_true (eq-eqb a.0 a.0 refl) (eq-eqb a.1 a.1 refl)) (eq-eqb a.2 a.2 refl)

parts_true : (a b : ℕ × ℕ × ℕ) → is_parts a b ≡ true → key_back a ≡ key_back b
parts_true a b h =
    let both = and_both (eqb a.0 b.0 && eqb a.1 b.1) (eqb a.2 b.2) h in
    let first = and_both (eqb a.0 b.0) (eqb a.1 b.1) both.0 in
    ap (λ (n : ℕ). from_parts n a.1 a.2) (eqb-true a.0 b.0 first.0) ∙ ap (λ (n : ℕ). from_parts b.0 n a.2) (eqb-true a.1 b.1 first.1) ∙ ap (from_parts b.0 b.1) (eqb-true a.2 b.2 both.1)

same_key : (j k : RowKey) → is_parts (key_parts j) (key_parts k) ≡ true → j ≡ k
same_key j k h = sym (back j) ∙ parts_true (key_parts j) (key_parts k) h ∙ back k

abbrev pub has_key : List (ℕ × ℕ × ℕ) → RowKey → Bool
has_key seen k = has_parts seen (key_parts k)

list_any-push : {X : Type 0} (test : X → Bool) (xs : List X) (y : X) → list_any test (xs ++ y ∷ []) ≡ (list_any test xs || test y)
list_any-push test [] y = by (test y)
  where
    by : (b : Bool) → (b || false) ≡ (false || b)
    by true = refl
    by false = refl
list_any-push test (x ∷ xs) y = ap (λ (b : Bool). test x || b) (list_any-push test xs y) ∙ sym (or_assoc (test x) (list_any test xs) (test y))
  where
    or_assoc : (a b c : Bool) → ((a || b) || c) ≡ (a || (b || c))
    or_assoc true b c = refl
    or_assoc false b c = refl

or_false : (a b : Bool) → (a || b) ≡ false → (a ≡ false) × (b ≡ false)
or_false true b h = absurd (false≢true (sym h))
or_false false b h = (refl, h)

or_true : (a b : Bool) → (a || b) ≡ true → (a ≡ true) ⊎ (b ≡ true)
or_true true b h = inl refl
or_true false b h = inr h

or_left : (a b : Bool) → a ≡ true → (a || b) ≡ true
or_left true b h = refl
or_left false b h = absurd (false≢true h)

or_right : (a b : Bool) → b ≡ true → (a || b) ≡ true
or_right true b h = refl
or_right false b h = h

-- ---- one change

abbrev made_by : RowChange → Option FarmRow
made_by (change.Put r) = Some r
made_by (change.Delete gone) = None

row_by-same : (c : RowChange) (x : Option FarmRow) → row_by c (change_key c) x ≡ made_by c
row_by-same (change.Put r) x = ap (λ (b : Bool). cond b (Some r) x) (is_key-same (row_key r))
row_by-same (change.Delete gone) x = ap (λ (b : Bool). cond b None x) (is_key-same gone)

row_by-other : (c : RowChange) (k : RowKey) (x : Option FarmRow) → is_key (change_key c) k ≡ false → row_by c k x ≡ x
row_by-other (change.Put r) k x other = ap (λ (b : Bool). cond b (Some r) x) other
row_by-other (change.Delete gone) k x other = ap (λ (b : Bool). cond b None x) other

none_is : (old : Option FarmRow) → is_some old ≡ false → old ≡ None
none_is None h = refl
none_is (Some r) h = absurd (false≢true (sym h))

nothing_is : (c : RowChange) (old : Option FarmRow) → ChangesNothing c old → old ≡ made_by c
nothing_is (change.Put r) old h = h
nothing_is (change.Delete gone) old h = none_is old h

something_is : (c : RowChange) (old : Option FarmRow) → (ChangesNothing c old → ⊥) → Differs c old (made_by c)
something_is (change.Put r) old h = (refl, h)
something_is (change.Delete gone) old h = (refl, true_from_ne_false (is_some old) h)

-- ---- what is kept so far

-- Of these changes those are left, the keys of the others are seen, and of them those are kept that make another row.
pub record IsExact (f : Farm) (all left : List RowChange) (seen : List (ℕ × ℕ × ℕ)) (exact : List RowChange) : Type 0 where
  pub waits : (k : RowKey) → has_key seen k ≡ false → row_after all k (row_at f k) ≡ row_after left k (row_at f k)
  pub rest : (k : RowKey) → has_key seen k ≡ true → list_any (is_named_by k) exact ≡ false → row_after all k (row_at f k) ≡ row_at f k
  pub each : (n : ℕ) (c : RowChange) → slice_get exact n ≡ Some c → Differs c (row_at f (change_key c)) (row_after all (change_key c) (row_at f (change_key c)))
  pub kept : (n : ℕ) (c : RowChange) → slice_get exact n ≡ Some c → has_key seen (change_key c) ≡ true
  pub once : (n m : ℕ) (c d : RowChange) → slice_get exact n ≡ Some c → slice_get exact m ≡ Some d → is_key (change_key c) (change_key d) ≡ true → n ≡ m

pub exact_none : (f : Farm) (all : List RowChange) (seen : List (ℕ × ℕ × ℕ)) (exact : List RowChange) → seen ≡ [] → exact ≡ [] → IsExact f all all seen exact
exact_none f all seen exact no_key none =
    let empty : (n : ℕ) (c : RowChange) → slice_get exact n ≡ Some c → ⊥ = λ n c at. none-some c (sym (ap (λ (cs : List RowChange). slice_get cs n) none) ∙ at) in
    record {
      waits = λ k h. refl;
      rest = λ k h unnamed. absurd (false≢true (sym (ap (λ (ks : List (ℕ × ℕ × ℕ)). has_key ks k) no_key) ∙ h));
      each = λ n c at. absurd (empty n c at);
      kept = λ n c at. absurd (empty n c at);
      once = λ n m c d at there same. absurd (empty n c at);
    }

module _ (f : Farm) (all left : List RowChange) (seen : List (ℕ × ℕ × ℕ)) (exact : List RowChange) (c : RowChange) (before : List RowChange) (popped : left ≡ before ++ c ∷ []) (so_far : IsExact f all left seen exact) where
  -- the row of a key after those that are left
  last : (k : RowKey) → has_key seen k ≡ false → row_after all k (row_at f k) ≡ row_by c k (row_after before k (row_at f k))
  last k h = so_far.waits k h ∙ ap (λ (cs : List RowChange). row_after cs k (row_at f k)) popped ∙ row_after-append before (c ∷ []) k (row_at f k)

  other_waits : (k : RowKey) → has_key seen k ≡ false → is_key (change_key c) k ≡ false → row_after all k (row_at f k) ≡ row_after before k (row_at f k)
  other_waits k h other = last k h ∙ row_by-other c k (row_after before k (row_at f k)) other

  -- a later change names the key
  pub exact_past : has_key seen (change_key c) ≡ true → IsExact f all before seen exact
  exact_past named =
      record {
        waits = λ k h. other_waits k h (false_from_ne_true _ (λ same. false≢true (sym h ∙ ap (has_key seen) (sym (is_key-true (change_key c) k same)) ∙ named)));
        rest = so_far.rest;
        each = so_far.each;
        kept = so_far.kept;
        once = so_far.once;
      }

  module _ (new : has_key seen (change_key c) ≡ false) where
    abbrev more : List (ℕ × ℕ × ℕ)
    more = seen ++ key_parts (change_key c) ∷ []

    unseen : (k : RowKey) → has_key more k ≡ false → (has_key seen k ≡ false) × (is_key (change_key c) k ≡ false)
    unseen k h =
        let both = or_false (has_key seen k) (is_parts (key_parts k) (key_parts (change_key c))) (sym (list_any-push (is_parts (key_parts k)) seen (key_parts (change_key c))) ∙ h) in
        (both.0, false_from_ne_true _ (λ same. false≢true (sym both.1 ∙ ap (λ (j : RowKey). is_parts (key_parts k) (key_parts j)) (is_key-true (change_key c) k same) ∙ parts_same (key_parts k))))

    is_seen : (k : RowKey) → has_key more k ≡ true → (has_key seen k ≡ true) ⊎ (k ≡ change_key c)
    is_seen k h = by (or_true (has_key seen k) (is_parts (key_parts k) (key_parts (change_key c))) (sym (list_any-push (is_parts (key_parts k)) seen (key_parts (change_key c))) ∙ h))
      where
        by : (has_key seen k ≡ true) ⊎ (is_parts (key_parts k) (key_parts (change_key c)) ≡ true) → (has_key seen k ≡ true) ⊎ (k ≡ change_key c)
        by (inl was) = inl was
        by (inr same) = inr (same_key k (change_key c) same)

    still : (k : RowKey) → has_key seen k ≡ true → has_key more k ≡ true
    still k h = list_any-push (is_parts (key_parts k)) seen (key_parts (change_key c)) ∙ or_left (has_key seen k) (is_parts (key_parts k) (key_parts (change_key c))) h

    newly : has_key more (change_key c) ≡ true
    newly = list_any-push (is_parts (key_parts (change_key c))) seen (key_parts (change_key c)) ∙ or_right (has_key seen (change_key c)) (is_parts (key_parts (change_key c)) (key_parts (change_key c))) (parts_same (key_parts (change_key c)))

    made : row_after all (change_key c) (row_at f (change_key c)) ≡ made_by c
    made = last (change_key c) new ∙ row_by-same c (row_after before (change_key c) (row_at f (change_key c)))

    waits_more : (k : RowKey) → has_key more k ≡ false → row_after all k (row_at f k) ≡ row_after before k (row_at f k)
    waits_more k h = let both = unseen k h in other_waits k both.0 both.1

    -- the last change of its key makes the row that is there
    exact_idle_more : ChangesNothing c (row_at f (change_key c)) → IsExact f all before more exact
    exact_idle_more idle =
        record {
          waits = waits_more;
          rest = λ k h unnamed. by k unnamed (is_seen k h);
          each = so_far.each;
          kept = λ n d at. still (change_key d) (so_far.kept n d at);
          once = so_far.once;
        }
      where
        by : (k : RowKey) → list_any (is_named_by k) exact ≡ false → (has_key seen k ≡ true) ⊎ (k ≡ change_key c) → row_after all k (row_at f k) ≡ row_at f k
        by k unnamed (inl was) = so_far.rest k was unnamed
        by k unnamed (inr same) = subst (λ (j : RowKey). row_after all j (row_at f j) ≡ row_at f j) (sym same) (made ∙ sym (nothing_is c (row_at f (change_key c)) idle))

    -- where a kept change stands
    stands : (n : ℕ) (d : RowChange) → slice_get (exact ++ c ∷ []) n ≡ Some d → (slice_get exact n ≡ Some d) ⊎ ((n ≡ length exact) × (d ≡ c))
    stands = appended_each (λ n d. (slice_get exact n ≡ Some d) ⊎ ((n ≡ length exact) × (d ≡ c))) exact c (λ n d at. inl at) (inr (refl, refl))

    -- the last change of its key makes another row
    exact_push_more : (ChangesNothing c (row_at f (change_key c)) → ⊥) → IsExact f all before more (exact ++ c ∷ [])
    exact_push_more differs =
        record {
          waits = waits_more;
          rest = λ k h unnamed. (let both = or_false (list_any (is_named_by k) exact) (is_key (change_key c) k) (sym (list_any-push (is_named_by k) exact c) ∙ unnamed) in rest_by k both.0 both.1 (is_seen k h));
          each = λ n d at. each_by n d (stands n d at);
          kept = λ n d at. kept_by n d (stands n d at);
          once = λ n m d e at there same. once_by n m d e same (stands n d at) (stands m e there);
        }
      where
        rest_by : (k : RowKey) → list_any (is_named_by k) exact ≡ false → is_key (change_key c) k ≡ false → (has_key seen k ≡ true) ⊎ (k ≡ change_key c) → row_after all k (row_at f k) ≡ row_at f k
        rest_by k unnamed other (inl was) = so_far.rest k was unnamed
        rest_by k unnamed other (inr same) = absurd (false≢true (sym other ∙ ap (is_key (change_key c)) same ∙ is_key-same (change_key c)))

        each_by : (n : ℕ) (d : RowChange) → (slice_get exact n ≡ Some d) ⊎ ((n ≡ length exact) × (d ≡ c)) → Differs d (row_at f (change_key d)) (row_after all (change_key d) (row_at f (change_key d)))
        each_by n d (inl at) = so_far.each n d at
        each_by n d (inr is) =
            subst (λ (e : RowChange). Differs e (row_at f (change_key e)) (row_after all (change_key e) (row_at f (change_key e)))) (sym is.1)
            (subst (Differs c (row_at f (change_key c))) (sym made) (something_is c (row_at f (change_key c)) differs))

        kept_by : (n : ℕ) (d : RowChange) → (slice_get exact n ≡ Some d) ⊎ ((n ≡ length exact) × (d ≡ c)) → has_key more (change_key d) ≡ true
        kept_by n d (inl at) = still (change_key d) (so_far.kept n d at)
        kept_by n d (inr is) = subst (λ (e : RowChange). has_key more (change_key e) ≡ true) (sym is.1) newly

        -- one that was kept before has another key
        apart : (n : ℕ) (d : RowChange) (k : RowKey) → slice_get exact n ≡ Some d → change_key d ≡ change_key c → ⊥
        apart n d k at same = false≢true (sym new ∙ ap (has_key seen) (sym same) ∙ so_far.kept n d at)

        once_by : (n m : ℕ) (d e : RowChange) → is_key (change_key d) (change_key e) ≡ true → (slice_get exact n ≡ Some d) ⊎ ((n ≡ length exact) × (d ≡ c)) → (slice_get exact m ≡ Some e) ⊎ ((m ≡ length exact) × (e ≡ c)) → n ≡ m
        once_by n m d e same (inl at) (inl there) = so_far.once n m d e at there same
        once_by n m d e same (inl at) (inr is) = absurd (apart n d (change_key c) at (is_key-true (change_key d) (change_key e) same ∙ ap change_key is.1))
        once_by n m d e same (inr is) (inl there) = absurd (apart m e (change_key c) there (sym (is_key-true (change_key d) (change_key e) same) ∙ ap change_key is.1))
        once_by n m d e same (inr is) (inr too) = is.0 ∙ sym too.0

    noted : (keys : List (ℕ × ℕ × ℕ)) → keys ≡ with_parts seen (key_parts (change_key c)) → keys ≡ more
    noted keys is = is ∙ ap (λ (b : Bool). cond b seen more) new

    pub exact_idle : (keys : List (ℕ × ℕ × ℕ)) → keys ≡ with_parts seen (key_parts (change_key c)) → ChangesNothing c (row_at f (change_key c)) → IsExact f all before keys exact
    exact_idle keys is idle = subst (λ (ks : List (ℕ × ℕ × ℕ)). IsExact f all before ks exact) (sym (noted keys is)) (exact_idle_more idle)

    pub exact_push : (keys : List (ℕ × ℕ × ℕ)) (pushed : List RowChange) → keys ≡ with_parts seen (key_parts (change_key c)) → pushed ≡ exact ++ c ∷ [] → (ChangesNothing c (row_at f (change_key c)) → ⊥) → IsExact f all before keys pushed
    exact_push keys pushed is push differs =
        subst (λ (ks : List (ℕ × ℕ × ℕ)). IsExact f all before ks pushed) (sym (noted keys is)) (subst (IsExact f all before more) (sym push) (exact_push_more differs))

  pub past : (keys : List (ℕ × ℕ × ℕ)) → keys ≡ with_parts seen (key_parts (change_key c)) → has_key seen (change_key c) ≡ true → IsExact f all before keys exact
  past keys is named = subst (λ (ks : List (ℕ × ℕ × ℕ)). IsExact f all before ks exact) (sym (is ∙ ap (λ (b : Bool). cond b seen (seen ++ key_parts (change_key c) ∷ [])) named)) (exact_past named)

-- ---- kept changes in another order

after_turn : ℕ → ℕ → ℕ
after_turn last zero = last
after_turn last (suc n) = n

at_end : (xs : List RowChange) (c : RowChange) → slice_get (xs ++ c ∷ []) (length xs) ≡ Some c
at_end [] c = refl
at_end (x ∷ xs) c = at_end xs c

at_front : (xs : List RowChange) (c : RowChange) (n : ℕ) (d : RowChange) → slice_get xs n ≡ Some d → slice_get (xs ++ c ∷ []) n ≡ Some d
at_front [] c n d at = absurd (none-some d at)
at_front (x ∷ xs) c zero d at = at
at_front (x ∷ xs) c (suc n) d at = at_front xs c n d at

at_turn : (xs : List RowChange) (c : RowChange) (n : ℕ) (d : RowChange) → slice_get (c ∷ xs) n ≡ Some d → slice_get (xs ++ c ∷ []) (after_turn (length xs) n) ≡ Some d
unfolding after_turn
at_turn xs c zero d at = at_end xs c ∙ at
at_turn xs c (suc n) d at = at_front xs c n d at

past_end : (xs : List RowChange) (d : RowChange) → slice_get xs (length xs) ≡ Some d → ⊥
past_end [] d at = none-some d at
past_end (x ∷ xs) d at = past_end xs d at

one_place : (xs : List RowChange) (c : RowChange) (n m : ℕ) (d e : RowChange) → slice_get (c ∷ xs) n ≡ Some d → slice_get (c ∷ xs) m ≡ Some e → after_turn (length xs) n ≡ after_turn (length xs) m → n ≡ m
unfolding after_turn
one_place xs c zero zero d e at there same = refl
one_place xs c zero (suc m) d e at there same = absurd (past_end xs e (ap (slice_get xs) same ∙ there))
one_place xs c (suc n) zero d e at there same = absurd (past_end xs d (ap (slice_get xs) (sym same) ∙ at))
one_place xs c (suc n) (suc m) d e at there same = ap suc same

or_turn : (a b : Bool) → (a || b) ≡ false → (b || a) ≡ false
or_turn true b h = absurd (false≢true (sym h))
or_turn false true h = absurd (false≢true (sym h))
or_turn false false h = refl

rotated : (f : Farm) (all left : List RowChange) (seen : List (ℕ × ℕ × ℕ)) (xs : List RowChange) (c : RowChange) → IsExact f all left seen (xs ++ c ∷ []) → IsExact f all left seen (c ∷ xs)
rotated f all left seen xs c is =
    record {
      waits = is.waits;
      rest = λ k named unnamed. is.rest k named (list_any-push (is_named_by k) xs c ∙ or_turn (is_named_by k c) (list_any (is_named_by k) xs) unnamed);
      each = λ n d at. is.each (after_turn (length xs) n) d (at_turn xs c n d at);
      kept = λ n d at. is.kept (after_turn (length xs) n) d (at_turn xs c n d at);
      once = λ n m d e at there same. one_place xs c n m d e at there (is.once (after_turn (length xs) n) (after_turn (length xs) m) d e (at_turn xs c n d at) (at_turn xs c m e there) same);
    }

-- where the last of the kept changes comes first
pub exact_turned : (f : Farm) (all left : List RowChange) (seen : List (ℕ × ℕ × ℕ)) (xs ys : List RowChange) → Turned xs ys → IsExact f all left seen xs → IsExact f all left seen ys
exact_turned f all left seen xs ys (inl none) is = subst (IsExact f all left seen) (none.0 ∙ sym none.1) is
exact_turned f all left seen xs ys (inr (es, e, last, first)) is = subst (IsExact f all left seen) (sym first) (rotated f all left seen es e (subst (IsExact f all left seen) last is))

-- one that is kept comes first
pub exact_first : (f : Farm) (all left : List RowChange) (seen : List (ℕ × ℕ × ℕ)) (exact : List RowChange) (c : RowChange) (before : List RowChange) → left ≡ before ++ c ∷ [] → IsExact f all left seen exact
    → has_key seen (change_key c) ≡ false → (keys : List (ℕ × ℕ × ℕ)) → keys ≡ with_parts seen (key_parts (change_key c)) → (ChangesNothing c (row_at f (change_key c)) → ⊥) → IsExact f all before keys (c ∷ exact)
exact_first f all left seen exact c before popped so_far new keys is differs =
    rotated f all before keys exact c (exact_push f all left seen exact c before popped so_far new keys (exact ++ c ∷ []) is refl differs)

-- one that isn't kept goes
pub exact_gone : (f : Farm) (all left : List RowChange) (seen : List (ℕ × ℕ × ℕ)) (exact : List RowChange) (c : RowChange) (before : List RowChange) → left ≡ before ++ c ∷ [] → IsExact f all left seen exact
    → (keys : List (ℕ × ℕ × ℕ)) → keys ≡ with_parts seen (key_parts (change_key c)) → (has_key seen (change_key c) ≡ true) ⊎ ChangesNothing c (row_at f (change_key c)) → IsExact f all before keys exact
exact_gone f all left seen exact c before popped so_far keys is (inl named) = past f all left seen exact c before popped so_far keys is named
exact_gone f all left seen exact c before popped so_far keys is (inr idle) = by (has_key seen (change_key c)) refl
  where
    by : (b : Bool) → has_key seen (change_key c) ≡ b → IsExact f all before keys exact
    by true named = past f all left seen exact c before popped so_far keys is named
    by false new = exact_idle f all left seen exact c before popped so_far new keys is idle

-- ---- once none is left

pub exact_all : (f g : Farm) (all left : List RowChange) (seen : List (ℕ × ℕ × ℕ)) (exact : List RowChange) → left ≡ [] → IsExact f all left seen exact → ((k : RowKey) → row_at g k ≡ row_after all k (row_at f k)) → NamesExactly f g exact
exact_all f g all left seen exact none is makes =
    record {
      rest = λ k unnamed. makes k ∙ rest_by k unnamed (has_key seen k) refl;
      each = λ n c at. subst (Differs c (row_at f (change_key c))) (sym (makes (change_key c))) (is.each n c at);
      once = is.once;
    }
  where
    rest_by : (k : RowKey) → list_any (is_named_by k) exact ≡ false → (b : Bool) → has_key seen k ≡ b → row_after all k (row_at f k) ≡ row_at f k
    rest_by k unnamed true h = is.rest k h unnamed
    rest_by k unnamed false h = is.waits k h ∙ ap (λ (cs : List RowChange). row_after cs k (row_at f k)) none

-- what it says of a key that it is a new one, or isn't
pub is_new : (had new : Bool) → new ≡ not had → new ≡ true → had ≡ false
is_new true new is h = absurd (false≢true (sym is ∙ h))
is_new false new is h = refl

pub was_seen : (had new : Bool) → new ≡ not had → new ≡ false → had ≡ true
was_seen true new is h = refl
was_seen false new is h = absurd (false≢true (sym h ∙ is))
