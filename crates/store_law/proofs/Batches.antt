-- A batch of exactly the rows in which two farms differ: it names each once, and makes the rows of the one into those of the other.
use Rattle.std.proofs.Common.{◌≡◌, ℕ, suc, zero, Bool, true, false, Contains, List, [], ◌∷◌, ◌++◌, map, Option, Some, None, refl, ap, sym, subst, ◌∙◌, arith, inl, inr}
use Rattle.std.specs.Cmp.{eq_by_cmp_equiv}
use Rattle.std.specs.FinMap.{get}
use Rattle.std.specs.List.{AllByRecursion, IsDistinct, list_any, slice_get}
use Rattle.std.specs.Ordering.{eq_by_cmp}
use Rattle.std.proofs.lemmas.Bool.{false≢true, false_from_ne_true}
use Rattle.std.proofs.lemmas.Map.Keys.{IsDistinct-cons, IsDistinct-head, IsDistinct-tail}
use Rattle.std.proofs.lemmas.Option.{get_or_from_slice_get, none-some, slice_get_within}
use Rattle.farm_types.specs.Farm.{Farm}
use Rattle.farm_types.specs.Kept.{IsKeptFarm}
use Rattle.farm_rows.specs.declared.farm_row.FarmRow.{FarmRow}
use Rattle.farm_rows.specs.declared.row_change.RowChange.{RowChange}
use Rattle.farm_rows.specs.declared.row_change.RowChange.TheVariants as change
use Rattle.farm_rows.specs.declared.row_key.RowKey.{RowKey}
use Rattle.farm_rows.specs.Changes.{Differs, NamesExactly, change_key, is_key, is_named_by, row_at, row_key}
use Rattle.farm_rows.specs.declared.head_row.TheConstants.{ROW_FORMAT}
use Rattle.farm_rows.specs.Rows.{rows_of}
use Rattle.farm_keeper.specs.declared.row.Row.{Row}
use Rattle.farm_keeper.specs.Rows.{Key, NamesEachOnce, after, is_among, key_cmp, key_of, keys_of}
use Rattle.farm_keeper.proofs.RowLaws.{after-deleted, after-other, after-put, key_total, same_rows}
use Rattle.row_codec.specs.RowLaws.{Fits}
use Rattle.store_law.proofs.InOrder.{rows_rise}
use Rattle.farm_rows.proofs.MadeRows.{is_key-same, is_key-true}
use Rattle.store_law.proofs.Keys.{HasId, pair_is, pair_of, row_has_id, same_key}
use Rattle.store_law.proofs.Members.{Has, all_from_has, all_has, any_has, has_behind, has_either, has_front, has_map, has_mapped, one_from_any, place_of, there}
use Rattle.store_law.proofs.RowsFit.{fits_each}
use Rattle.store_law.proofs.RowsThere.{has-row_at, row_at-has}
use Rattle.store_law.proofs.StoredRows.{get_row, got_row, one_at, one_farm, pair_itself, same_pair}
use Rattle.store_law.specs.Stored.{batch_of, deletes_in, key_pair, puts_in, stored, stored_row}

-- ---- what a batch names

-- a change that puts the row, and one that deletes the row of that kind and id
abbrev PutIn : List RowChange → Row → Type 0
PutIn cs x = (n : ℕ) × (r : FarmRow) × (slice_get cs n ≡ Some (change.Put r)) × (stored_row r ≡ x)

abbrev DeleteIn : List RowChange → Key → Type 0
DeleteIn cs q = (n : ℕ) × (gone : RowKey) × (slice_get cs n ≡ Some (change.Delete gone)) × (key_pair gone ≡ q)

named_put : (cs : List RowChange) (x : Row) → Has (puts_in cs) x → PutIn cs x
named_put [] x h = absurd h
named_put (change.Put r ∷ cs) x (inl is) = (0, r, refl, is)
named_put (change.Put r ∷ cs) x (inr h) = let later = named_put cs x h in (suc later.0, later.1, later.2, later.3)
named_put (change.Delete gone ∷ cs) x h = let later = named_put cs x h in (suc later.0, later.1, later.2, later.3)

named_delete : (cs : List RowChange) (q : Key) → Has (deletes_in cs) q → DeleteIn cs q
named_delete [] q h = absurd h
named_delete (change.Put r ∷ cs) q h = let later = named_delete cs q h in (suc later.0, later.1, later.2, later.3)
named_delete (change.Delete gone ∷ cs) q (inl is) = (0, gone, refl, is)
named_delete (change.Delete gone ∷ cs) q (inr h) = let later = named_delete cs q h in (suc later.0, later.1, later.2, later.3)

same_put : (r s : FarmRow) → Some (change.Put r) ≡ Some (change.Put s) → r ≡ s
same_put r s e = cc

same_delete : (k l : RowKey) → Some (change.Delete k) ≡ Some (change.Delete l) → k ≡ l
same_delete k l e = cc

no_put : (k : RowKey) (r : FarmRow) → Some (change.Delete k) ≡ Some (change.Put r) → ⊥
no_put k r e = cc

no_delete : (r : FarmRow) (k : RowKey) → Some (change.Put r) ≡ Some (change.Delete k) → ⊥
no_delete r k e = cc

put_named : (cs : List RowChange) (n : ℕ) (r : FarmRow) → slice_get cs n ≡ Some (change.Put r) → Has (puts_in cs) (stored_row r)
put_named [] n r at = absurd (none-some (change.Put r) at)
put_named (change.Put s ∷ cs) zero r at = inl (ap stored_row (same_put s r at))
put_named (change.Put s ∷ cs) (suc n) r at = inr (put_named cs n r at)
put_named (change.Delete gone ∷ cs) zero r at = absurd (no_put gone r at)
put_named (change.Delete gone ∷ cs) (suc n) r at = put_named cs n r at

delete_named : (cs : List RowChange) (n : ℕ) (k : RowKey) → slice_get cs n ≡ Some (change.Delete k) → Has (deletes_in cs) (key_pair k)
delete_named [] n k at = absurd (none-some (change.Delete k) at)
delete_named (change.Put s ∷ cs) zero k at = absurd (no_delete s k at)
delete_named (change.Put s ∷ cs) (suc n) k at = delete_named cs n k at
delete_named (change.Delete gone ∷ cs) zero k at = inl (ap key_pair (same_delete gone k at))
delete_named (change.Delete gone ∷ cs) (suc n) k at = inr (delete_named cs n k at)

-- the kinds and ids that the changes name
abbrev named : List RowChange → List Key
named cs = keys_of (batch_of cs)

abbrev pair_named : RowChange → Key
pair_named c = key_pair (change_key c)

abbrev NamedIn : List RowChange → Key → Type 0
NamedIn cs q = (n : ℕ) × (c : RowChange) × (slice_get cs n ≡ Some c) × (pair_named c ≡ q)

of_put : (cs : List RowChange) (q : Key) → Has (map key_of (puts_in cs)) q → NamedIn cs q
of_put cs q h =
    let x = has_mapped key_of (puts_in cs) q h in
    let put = named_put cs x.0 x.1 in
    (put.0, change.Put put.1, put.2, pair_is put.1 ∙ ap key_of put.3 ∙ x.2)

of_delete : (cs : List RowChange) (q : Key) → Has (deletes_in cs) q → NamedIn cs q
of_delete cs q h = let gone = named_delete cs q h in (gone.0, change.Delete gone.1, gone.2, gone.3)

of_named : (cs : List RowChange) (q : Key) → Has (named cs) q → NamedIn cs q
of_named cs q = has_either (NamedIn cs q) (map key_of (puts_in cs)) (deletes_in cs) q (of_put cs q) (of_delete cs q)

is_named : (cs : List RowChange) (n : ℕ) (c : RowChange) → slice_get cs n ≡ Some c → Has (named cs) (pair_named c)
is_named cs n (change.Put r) at =
    has_front (map key_of (puts_in cs)) (deletes_in cs) (pair_named (change.Put r))
    (subst (Has (map key_of (puts_in cs))) (sym (pair_is r)) (has_map key_of (puts_in cs) (stored_row r) (put_named cs n r at)))
is_named cs n (change.Delete gone) at = has_behind (map key_of (puts_in cs)) (deletes_in cs) (key_pair gone) (delete_named cs n gone at)

pub has_among : (keys : List Key) (q : Key) → Has keys q → is_among keys q ≡ true
has_among keys q h = any_has (eq_by_cmp key_cmp q) keys q h (pair_itself q q refl)

pub among_has : (keys : List Key) (q : Key) → is_among keys q ≡ true → Has keys q
among_has keys q h =
    let one = one_from_any (eq_by_cmp key_cmp q) keys h in
    subst (Has keys) (sym (same_pair q one.0 one.2)) one.1

-- ---- each once

abbrev Apart : List Key → Type 0
Apart keys = IsDistinct (eq_by_cmp key_cmp) keys

none_apart : Apart []
unfolding IsDistinct
none_apart = tt

all_between : (P : Key → Type 0) (xs ys : List Key) (p : Key) → AllByRecursion P (xs ++ ys) → P p → AllByRecursion P (xs ++ p ∷ ys)
all_between P [] ys p all here = (here, all)
all_between P (x ∷ xs) ys p all here = (all.0, all_between P xs ys p all.1 here)

-- one more key between keys that differ from it
put_between : (xs ys : List Key) (p : Key) → Apart (xs ++ ys) → ((q : Key) → Has (xs ++ ys) q → eq_by_cmp key_cmp p q ≡ false) → Apart (xs ++ p ∷ ys)
put_between [] ys p once apart = IsDistinct-cons (eq_by_cmp key_cmp) p ys (all_from_has (λ q. eq_by_cmp key_cmp p q ≡ false) ys apart) once
put_between (x ∷ xs) ys p once apart =
    let first = IsDistinct-head (eq_by_cmp key_cmp) x (xs ++ ys) once in
    let rest = IsDistinct-tail (eq_by_cmp key_cmp) x (xs ++ ys) once in
    IsDistinct-cons (eq_by_cmp key_cmp) x (xs ++ p ∷ ys)
    (all_between (λ q. eq_by_cmp key_cmp x q ≡ false) xs ys p first ((eq_by_cmp_equiv key_total).symm x p ∙ apart x (inl refl)))
    (put_between xs ys p rest (λ q h. apart q (inr h)))

-- changes of one kind and id are one
abbrev Once : List RowChange → Type 0
Once cs = (n m : ℕ) (c d : RowChange) → slice_get cs n ≡ Some c → slice_get cs m ≡ Some d → pair_named c ≡ pair_named d → n ≡ m

once_later : (c : RowChange) (cs : List RowChange) → Once (c ∷ cs) → Once cs
once_later c cs once n m d e at also same = let next : suc n ≡ suc m = once (suc n) (suc m) d e at also same in omega (arith, next)

apart_first : (c : RowChange) (cs : List RowChange) → Once (c ∷ cs) → (q : Key) → Has (named cs) q → eq_by_cmp key_cmp (pair_named c) q ≡ false
apart_first c cs once q h =
    let later = of_named cs q h in
    false_from_ne_true (eq_by_cmp key_cmp (pair_named c) q) (λ same.
    let next : 0 ≡ suc later.0 = once 0 (suc later.0) c later.1 refl later.2 (same_pair (pair_named c) q same ∙ sym later.3) in
    omega (arith, next))

each_once : (cs : List RowChange) → Once cs → Apart (named cs)
each_once [] once = none_apart
each_once (change.Put r ∷ cs) once =
    IsDistinct-cons (eq_by_cmp key_cmp) (pair_of r) (named cs)
    (all_from_has (λ q. eq_by_cmp key_cmp (pair_of r) q ≡ false) (named cs)
    (λ q h. ap (λ p. eq_by_cmp key_cmp p q) (sym (pair_is r)) ∙ apart_first (change.Put r) cs once q h))
    (each_once cs (once_later (change.Put r) cs once))
each_once (change.Delete gone ∷ cs) once =
    put_between (map key_of (puts_in cs)) (deletes_in cs) (key_pair gone) (each_once cs (once_later (change.Delete gone) cs once)) (apart_first (change.Delete gone) cs once)

-- ---- rows of one farm

module _ (f : Farm) (kept : IsKeptFarm f) where
  row_fits : (r : FarmRow) → Has (rows_of f) r → Fits r
  row_fits r h = all_has Fits (rows_of f) r (fits_each ROW_FORMAT f kept (inl refl)) h

  -- each row is that of its key
  row_there : (r : FarmRow) → Has (rows_of f) r → row_at f (row_key r) ≡ Some r
  row_there r h =
      let found = there (row_at f (row_key r)) (has-row_at f r h) in
      let other = row_at-has f kept.record_kept (row_key r) found.0 found.1 in
      let same = one_at (rows_of f) found.0 r (rows_rise ROW_FORMAT f kept (inl refl)) other.0 h (sym (pair_is found.0) ∙ ap key_pair other.1 ∙ pair_is r) in
      found.1 ∙ ap Some same

  -- a key that has a row has an id of its own
  key_has_id : (k : RowKey) (r : FarmRow) → row_at f k ≡ Some r → HasId k
  key_has_id k r at =
      let has = row_at-has f kept.record_kept k r at in
      subst HasId has.1 (row_has_id r (row_fits r has.0))

-- where the rows of a kind and an id are those of another farm, so are their bytes
bytes_stay : (f g : Farm) (kept : IsKeptFarm f) (also : IsKeptFarm g) (q : Key) → ((k : RowKey) → key_pair k ≡ q → row_at g k ≡ row_at f k) → (text : List ℕ) → get (stored f) q ≡ Some text
    → get (stored g) q ≡ Some text
bytes_stay f g kept also q stay text at =
    let got = got_row ROW_FORMAT f q text at in
    let r = got.0 in
    let is = got.1 in
    let there = stay (row_key r) (pair_is r ∙ is.1) ∙ row_there f kept r is.0 in
    let has = row_at-has g also.record_kept (row_key r) r there in
    ap (get (stored g)) (sym is.1) ∙ get_row ROW_FORMAT g also (inl refl) r has.0 ∙ ap (λ (bytes : List ℕ). Some bytes) is.2

pub same_options : {X : Type 0} (o p : Option X) → ((x : X) → o ≡ Some x → p ≡ Some x) → ((x : X) → p ≡ Some x → o ≡ Some x) → o ≡ p
same_options None None to from = refl
same_options None (Some x) to from = from x refl
same_options (Some x) p to from = sym (to x refl)

pub contains : {X : Type 0} (xs : List X) (x : X) → Has xs x → Contains xs x
contains xs x h =
    let at = place_of xs x h in
    (at.0, slice_get_within xs at.0 x at.1, get_or_from_slice_get xs at.0 x x at.1)

-- ---- two farms

module _ (f g : Farm) (cs : List RowChange) (kept : IsKeptFarm f) (also : IsKeptFarm g) (exact : NamesExactly f g cs) where
  id_by : (c : RowChange) → Differs c (row_at f (change_key c)) (row_at g (change_key c)) → HasId (change_key c)
  id_by (change.Put r) d = key_has_id g also (row_key r) r d.0
  id_by (change.Delete gone) d = let old = there (row_at f gone) d.1 in key_has_id f kept gone old.0 old.1

  named_id : (n : ℕ) (c : RowChange) → slice_get cs n ≡ Some c → HasId (change_key c)
  named_id n c at = id_by c (exact.each n c at)

  once : Once cs
  once n m c d at there same =
      let one = same_key (change_key c) (change_key d) (named_id n c at) (named_id m d there) same in
      exact.once n m c d at there (subst (λ (k : RowKey). is_key (change_key c) k ≡ true) one (is_key-same (change_key c)))

  pub named_once : NamesEachOnce (batch_of cs)
  named_once = each_once cs once

  -- the row of a key that isn't named stays
  unnamed : (q : Key) → is_among (named cs) q ≡ false → (k : RowKey) → key_pair k ≡ q → row_at g k ≡ row_at f k
  unnamed q apart k is =
      exact.rest k (false_from_ne_true (list_any (is_named_by k) cs) (λ h.
      let one = one_from_any (is_named_by k) cs h in
      let at = place_of cs one.0 one.1 in
      let has = subst (Has (named cs)) (ap key_pair (is_key-true (change_key one.0) k one.2) ∙ is) (is_named cs at.0 one.0 at.1) in
      false≢true (sym apart ∙ has_among (named cs) q has)))

  at_unnamed : (q : Key) → is_among (named cs) q ≡ false → get (after (batch_of cs) (stored f)) q ≡ get (stored g) q
  at_unnamed q apart =
      after-other (batch_of cs) (stored f) q apart
      ∙ same_options (get (stored f) q) (get (stored g) q) (bytes_stay f g kept also q (unnamed q apart)) (bytes_stay g f also kept q (λ k is. sym (unnamed q apart k is)))

  at_put : (q : Key) → Has (map key_of (puts_in cs)) q → get (after (batch_of cs) (stored f)) q ≡ get (stored g) q
  at_put q h =
      let x = has_mapped key_of (puts_in cs) q h in
      let put = named_put cs x.0 x.1 in
      let r = put.1 in
      let pair = ap key_of put.3 ∙ x.2 in
      let has = row_at-has g also.record_kept (row_key r) r (exact.each put.0 (change.Put r) put.2).0 in
      ap (get (after (batch_of cs) (stored f))) (sym pair)
      ∙ after-put (batch_of cs) (stored f) (stored_row r) named_once (contains (puts_in cs) (stored_row r) (put_named cs put.0 r put.2))
      ∙ sym (get_row ROW_FORMAT g also (inl refl) r has.0) ∙ ap (get (stored g)) pair

  none_left : (q : Key) (gone : RowKey) → key_pair gone ≡ q → HasId gone → row_at g gone ≡ None → (o : Option (List ℕ)) → get (stored g) q ≡ o → None ≡ o
  none_left q gone pair has_id none None is = refl
  none_left q gone pair has_id none (Some text) is =
      let got = got_row ROW_FORMAT g q text is in
      let r = got.0 in
      let key = same_key (row_key r) gone (row_has_id r (row_fits g also r got.1.0)) has_id (pair_is r ∙ got.1.1 ∙ sym pair) in
      absurd (none-some r (sym none ∙ ap (row_at g) (sym key) ∙ row_there g also r got.1.0))

  at_deleted : (q : Key) → Has (deletes_in cs) q → get (after (batch_of cs) (stored f)) q ≡ get (stored g) q
  at_deleted q h =
      let gone = named_delete cs q h in
      after-deleted (batch_of cs) (stored f) q (contains (deletes_in cs) q h)
      ∙ none_left q gone.1 gone.3 (named_id gone.0 (change.Delete gone.1) gone.2) (exact.each gone.0 (change.Delete gone.1) gone.2).0 (get (stored g) q) refl

  at_any : (q : Key) (b : Bool) → is_among (named cs) q ≡ b → get (after (batch_of cs) (stored f)) q ≡ get (stored g) q
  at_any q true is =
      has_either (get (after (batch_of cs) (stored f)) q ≡ get (stored g) q) (map key_of (puts_in cs)) (deletes_in cs) q (at_put q) (at_deleted q) (among_has (named cs) q is)
  at_any q false is = at_unnamed q is

  pub rows_after : after (batch_of cs) (stored f) ≡ stored g
  rows_after = same_rows (after (batch_of cs) (stored f)) (stored g) (λ q. at_any q (is_among (named cs) q) refl)

-- farms whose stores have the same rows are one
pub farms_differ : (f g : Farm) → IsKeptFarm f → IsKeptFarm g → stored f ≡ stored g → f ≡ g
farms_differ f g kept also same = one_farm f g kept also (fits_each ROW_FORMAT f kept (inl refl)) (fits_each ROW_FORMAT g also (inl refl)) same
