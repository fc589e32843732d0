-- What a query leaves of a connection, and the rows as they are loaded.
use Rattle.std.proofs.Common.{◌≡◌, ◌⊎◌, inl, inr, ℕ, List, [], ◌∷◌, map, Bool, true, false, cond, ◌&&◌, ◌||◌, Option, None, Some, refl, sym, ap, subst, ◌∙◌, IsTrue, T, Less, Equal, Greater, Ordering, true≢false}
use Rattle.std.specs.Prelude.{nat_lt, ◌==◌}
use Rattle.std.specs.Ordering.{is_lt, ordering_then}
use Rattle.std.specs.FinMap.{entries, entries-from_sorted, find, from_sorted, get-from_sorted, is_sorted}
use Rattle.std.specs.FinMap.Entries.{below_all}
use Rattle.std.proofs.lemmas.Bool.{and_from, and_parts}
use Rattle.sqlite_value.specs.Order.{Row}
use Rattle.sqlite_value.specs.declared.value.Value.TheVariants.{Null}
use Rattle.sqlite_rules.specs.Lists.{Has}
use Rattle.sqlite_rules.proofs.ProbeLemmas.{mapped_has}
use Rattle.sqlite_schema.specs.declared.command.Returning.{Returning}
use Rattle.sqlite.specs.State.{State, FailsToQuery, FailsToShow, IsNotRun, IsTooLate, KeepsCommit, Shown, ShowsRows}
use Rattle.sqlite.specs.Clock.{timed}
use Rattle.sqlite.specs.declared.error.Error.{Error}
use Rattle.farm_keeper.specs.declared.row.Row.{Row as Kept}
use Rattle.farm_keeper.specs.Rows.{Key, entry_of, key_cmp, key_of}
use Rattle.farm_keeper.proofs.RowLaws.{key_total, same_rows}
use Rattle.keeper_sqlite.specs.Told.{AreShown, IsRising, IsTold, entry_in, key_in, rises_from, shown, told}
use Rattle.keeper_sqlite.proofs.KeyLemmas.{Each, find_has, find_none, looked, told_at}
use Rattle.keeper_sqlite.proofs.LeftLemmas.{unmapped}
use Rattle.keeper_sqlite.proofs.StepLemmas.{kept_rolled, kept_unchanged}

module _ (sql : List ℕ) (params : Row) (old new : State) where
  -- a query that shows its rows found the connection open, and committed nothing
  pub shown_kept : (rows : List Row) → IsTrue old.in_transaction → Shown sql params old new rows → IsTrue old.is_open × KeepsCommit old new
  unfolding Shown
  shown_kept rows inside h = go h.0.returning h.2
    where
      go : (o : Option Returning) → ShowsRows old new sql h.0 (timed params h.0.formats h.1.now) rows o → IsTrue old.is_open × KeepsCommit old new
      go None it = (it.3.0.was_open, kept_unchanged old new it.3)
      go (Some what) it =
          let s = it.1.shown in
          (s.was_open, record { was_open = λ _. s.was_open; committed = λ _. rw inside at s.committed_is })

  pub failed_kept : (e : Error) → FailsToQuery sql params old new e ⊎ IsTooLate sql params old new e → KeepsCommit old new
  unfolding FailsToQuery IsNotRun
  failed_kept e (inl (inl (inl none))) = kept_unchanged old new none.1
  failed_kept e (inl (inl (inr failed))) = kept_rolled old new failed.3
  failed_kept e (inl (inr h)) = go h.0.returning h.2
    where
      go : (o : Option Returning) → FailsToShow old new sql h.0 (timed params h.0.formats h.1.now) e o → KeepsCommit old new
      go None it = kept_unchanged old new it.3
      go (Some what) (inl it) = kept_unchanged old new it.1
      go (Some what) (inr it) = kept_rolled old new it.3
  failed_kept e (inr late) = kept_unchanged old new late.5

-- ---- kinds and ids that rise

less_is : (o : Ordering) → is_lt o ≡ true → o ≡ Less
less_is Less h = refl
less_is Equal h = absurd (true≢false (sym h))
less_is Greater h = absurd (true≢false (sym h))

below : (a b c : Key) → is_lt (key_cmp a b) ≡ true → is_lt (key_cmp b c) ≡ true → is_lt (key_cmp a c) ≡ true
below a b c p q = ap is_lt (key_total.trans a b c (less_is _ p) (less_is _ q))

lower : (a b : Key) (keys : List Key) → is_lt (key_cmp a b) ≡ true → rises_from b keys ≡ true → rises_from a keys ≡ true
lower a b [] p h = refl
lower a b (c ∷ keys) p h = let both = and_parts _ _ h in and_from _ _ (below a b c p both.0) both.1

rises_below : (k : Key) (rows : List Kept) → rises_from k (map key_of rows) ≡ true → below_all key_cmp k (map entry_of rows) ≡ true
rises_below k [] h = refl
rises_below k (r ∷ rows) h =
    let both = and_parts _ _ h in
    and_from _ _ both.0 (rises_below k rows (lower k (key_of r) (map key_of rows) both.0 both.1))

rises_sorted : (k : Key) (rows : List Kept) → rises_from k (map key_of rows) ≡ true → is_sorted key_cmp (map entry_of rows) ≡ true
rises_sorted k [] h = refl
rises_sorted k (r ∷ rows) h =
    let both = and_parts _ _ h in
    and_from _ _ (rises_below (key_of r) rows both.1) (rises_sorted (key_of r) rows both.1)

pub is_risen : (first : Kept) (rest : List Kept) → rises_from (key_of first) (map key_of rest) ≡ true → IsRising (first ∷ rest)
is_risen first rest h = subst T (sym (and_from _ _ (rises_below (key_of first) rest h) (rises_sorted (key_of first) rest h))) tt

-- ---- the list of the rows

module _ (rows out : List Row) (list : List Kept) (is : IsTold rows) (are : AreShown rows out) (read : map entry_of list ≡ map (λ x. entry_in (Null ∷ x)) out) (up : IsRising list) where
  abbrev with_null : Row → Row
  with_null x = Null ∷ x

  abbrev out' : List Row
  out' = map with_null out

  entries_same : (xs : List Row) → map (λ x. entry_in (Null ∷ x)) xs ≡ map entry_in (map with_null xs)
  entries_same [] = refl
  entries_same (x ∷ xs) = ap (λ es. entry_in (Null ∷ x) ∷ es) (entries_same xs)

  comes_from : (r' : Row) → Has out' r' → (r : Row) × Has rows r × (r' ≡ with_null (shown r))
  comes_from r' h =
      let x = unmapped with_null out r' h in
      let r = are.sound x.0 x.1 in
      (r.0, r.1, x.2 ∙ ap with_null r.2)

  each_out : Each out'
  each_out a b p q same =
      let x = comes_from a p in
      let y = comes_from b q in
      let one = is.each x.0 y.0 x.1 y.1 (sym (ap key_in x.2) ∙ same ∙ ap key_in y.2) in
      x.2 ∙ ap (λ (r : Row). with_null (shown r)) one ∙ sym y.2

  found_same : (q : Key) → find key_cmp q (map entry_in out') ≡ find key_cmp q (map entry_in rows)
  found_same q = elim (looked q rows) [
    | inl r ↦ find_has q out' (with_null (shown r.0)) (mapped_has with_null out (shown r.0) (are.complete r.0 r.1)) r.2 each_out ∙ sym (find_has q rows r.0 r.1 r.2 is.each)
    | inr none ↦ find_none q out' (λ r' h e. let r = comes_from r' h in none r.0 r.1 (sym (ap key_in r.2) ∙ e)) ∙ sym (find_none q rows none)
  ]

  pub listed : map entry_of list ≡ entries (told rows)
  listed =
      let same : from_sorted (map entry_of list) ≡ told rows =
      same_rows _ _ (λ q. get-from_sorted key_cmp (map entry_of list) q up ∙ ap (find key_cmp q) (read ∙ entries_same out) ∙ found_same q ∙ sym (told_at rows q)) in
      sym (entries-from_sorted key_cmp (map entry_of list) up) ∙ ap entries same

below_is : (a b c d : Bool) → is_lt (ordering_then (cond a Less (cond b Equal Greater)) (cond c Less (cond d Equal Greater))) ≡ (a || (b && c))
below_is true b c d = refl
below_is false true true d = refl
below_is false true false true = refl
below_is false true false false = refl
below_is false false c d = refl

-- the order of kinds and ids
pub key_below : (kind id kind' id' : ℕ) → is_lt (key_cmp (kind, id) (kind', id')) ≡ (nat_lt kind kind' || ((kind == kind') && nat_lt id id'))
key_below kind id kind' id' = below_is (nat_lt kind kind') (kind == kind') (nat_lt id id') (id == id')
