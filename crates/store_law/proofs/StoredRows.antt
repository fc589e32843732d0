-- What the store of a farm has at a kind and an id, and the list of its rows.
use Rattle.std.proofs.Common.{◌≡◌, ℕ, Bool, true, false, cond, List, [], ◌∷◌, map, Option, Some, Less, Equal, Greater, refl, ap, sym, subst, ◌∙◌, inl, inr, is_eq}
use Rattle.std.specs.Cmp.{eq_by_cmp_equiv}
use Rattle.std.specs.FinMap.{entries, find, get, get-from_entries}
use Rattle.std.specs.List.{AllByRecursion}
use Rattle.std.specs.List.Sorted.{IsStrictlySortedBy}
use Rattle.std.specs.Ordering.{eq_by_cmp}
use Rattle.std.specs.declared.cmp.Ordering.{Ordering}
use Rattle.std.specs.Prelude.{Ok, Result}
use Rattle.std.proofs.lemmas.Bool.{false≢true}
use Rattle.std.proofs.lemmas.Map.Keys.{sorted_head, sorted_tail}
use Rattle.std.proofs.lemmas.Option.{none-some, same_Some}
use Rattle.farm_types.specs.Farm.{Farm}
use Rattle.farm_types.specs.Kept.{IsKeptFarm}
use Rattle.farm_rows.specs.declared.farm_row.FarmRow.{FarmRow}
use Rattle.farm_rows.specs.declared.head_row.TheConstants.{ROW_FORMAT}
use Rattle.farm_rows.specs.Recovery.{Said, farm_said}
use Rattle.farm_rows.specs.Rows.{HasRowsIn, rows_in, rows_of}
use Rattle.farm_keeper.specs.declared.row.Row.{Row}
use Rattle.farm_keeper.specs.Rows.{Key, Lists, entry_of, key_cmp, rows_from}
use Rattle.farm_keeper.proofs.RowLaws.{Lists-only, Lists-sorted, exact_key, key_total}
use Rattle.recovery_law.proofs.Said.{rows_say}
use Rattle.row_codec.specs.RowFields.{text_in}
use Rattle.row_codec.specs.RowLaws.{Fits}
use Rattle.row_codec.proofs.ReadBack.{spelled_once}
use Rattle.store_law.proofs.InOrder.{pairs, pairs_in, rows_rise}
use Rattle.store_law.proofs.Keys.{pair_of}
use Rattle.store_law.proofs.Members.{Has}
use Rattle.store_law.specs.Stored.{stored, stored_in, stored_row, stored_row_in, stored_rows, stored_rows_in}

-- ---- kinds and ids that compare

equal_by : (o : Ordering) → is_eq o ≡ true → o ≡ Equal
equal_by Less h = absurd (false≢true h)
equal_by Equal h = refl
equal_by Greater h = absurd (false≢true h)

pub same_pair : (p q : Key) → eq_by_cmp key_cmp p q ≡ true → p ≡ q
same_pair p q h = exact_key p q (equal_by (key_cmp p q) h)

pub pair_itself : (p q : Key) → p ≡ q → eq_by_cmp key_cmp p q ≡ true
pair_itself p q is = ap (eq_by_cmp key_cmp p) (sym is) ∙ (eq_by_cmp_equiv key_total).refl p

less_apart : (p q : Key) → key_cmp p q ≡ Less → eq_by_cmp key_cmp q p ≡ false
less_apart p q less = (eq_by_cmp_equiv key_total).symm q p ∙ ap is_eq less

-- a key isn't before itself
pub none_before_itself : (p q : Key) → p ≡ q → key_cmp p q ≡ Less → ⊥
none_before_itself p q is less = false≢true (sym (less_apart p q less) ∙ pair_itself q p (sym is))

-- ---- rows that rise

abbrev pub Rise : List FarmRow → Type 0
Rise rows = IsStrictlySortedBy key_cmp (pairs rows)

-- a row behind the first one comes after it
has_later : (first : Key) (rows : List FarmRow) (r : FarmRow) → AllByRecursion (λ key. key_cmp first key ≡ Less) (pairs rows) → Has rows r → key_cmp first (pair_of r) ≡ Less
has_later first [] r all h = absurd h
has_later first (x ∷ xs) r all (inl is) = ap (λ (s : FarmRow). key_cmp first (pair_of s)) (sym is) ∙ all.0
has_later first (x ∷ xs) r all (inr h) = has_later first xs r all.1 h

pub behind_first : (x : FarmRow) (xs : List FarmRow) (r : FarmRow) → Rise (x ∷ xs) → Has xs r → key_cmp (pair_of x) (pair_of r) ≡ Less
behind_first x xs r rise h = has_later (pair_of x) xs r (sorted_head key_cmp (pair_of x) (pairs xs) rise) h

-- two of them of one kind and id are one
pub one_at : (rows : List FarmRow) (r s : FarmRow) → Rise rows → Has rows r → Has rows s → pair_of r ≡ pair_of s → r ≡ s
one_at [] r s rise h g same = absurd h
one_at (x ∷ xs) r s rise (inl is) (inl also) same = sym is ∙ also
one_at (x ∷ xs) r s rise (inl is) (inr g) same = absurd (none_before_itself (pair_of x) (pair_of s) (ap pair_of is ∙ same) (behind_first x xs s rise g))
one_at (x ∷ xs) r s rise (inr h) (inl also) same = absurd (none_before_itself (pair_of x) (pair_of r) (ap pair_of also ∙ sym same) (behind_first x xs r rise h))
one_at (x ∷ xs) r s rise (inr h) (inr g) same = one_at xs r s (sorted_tail key_cmp (pair_of x) (pairs xs) rise) h g same

-- ---- what is found at a kind and an id

first_found : (b : Bool) (text : List ℕ) (rest : Option (List ℕ)) → b ≡ true → cond b (Some text) rest ≡ Some text
first_found true text rest h = refl
first_found false text rest h = absurd (false≢true h)

later_found : (b : Bool) (text other : List ℕ) (rest : Option (List ℕ)) → b ≡ false → rest ≡ Some text → cond b (Some other) rest ≡ Some text
later_found true text other rest h at = absurd (false≢true (sym h))
later_found false text other rest h at = at

module _ (format : ℕ) where
  abbrev found_in : List FarmRow → Key → Option (List ℕ)
  found_in rows key = find key_cmp key (map entry_of (map (stored_row_in format) rows))

  finds : (rows : List FarmRow) (r : FarmRow) → Rise rows → Has rows r → found_in rows (pair_of r) ≡ Some (text_in format r)
  finds [] r rise h = absurd h
  finds (x ∷ xs) r rise (inl is) =
      first_found (eq_by_cmp key_cmp (pair_of r) (pair_of x)) (text_in format x) (found_in xs (pair_of r)) (pair_itself (pair_of r) (pair_of x) (ap pair_of (sym is)))
      ∙ ap (λ (s : FarmRow). Some (text_in format s)) is
  finds (x ∷ xs) r rise (inr h) =
      later_found (eq_by_cmp key_cmp (pair_of r) (pair_of x)) (text_in format r) (text_in format x) (found_in xs (pair_of r))
      (less_apart (pair_of x) (pair_of r) (behind_first x xs r rise h)) (finds xs r (sorted_tail key_cmp (pair_of x) (pairs xs) rise) h)

  -- the row of those bytes at a kind and an id
  abbrev pub IsRow : List FarmRow → Key → List ℕ → FarmRow → Type 0
  IsRow rows key text r = Has rows r × (pair_of r ≡ key) × (text_in format r ≡ text)

  found_by : (x : FarmRow) (xs : List FarmRow) (key : Key) (text : List ℕ) (b : Bool) → eq_by_cmp key_cmp key (pair_of x) ≡ b
      → (found_in xs key ≡ Some text → (r : FarmRow) × IsRow xs key text r) → cond b (Some (text_in format x)) (found_in xs key) ≡ Some text → (r : FarmRow) × IsRow (x ∷ xs) key text r
  found_by x xs key text true is later at = (x, (inl refl, sym (same_pair key (pair_of x) is), same_Some (text_in format x) text at))
  found_by x xs key text false is later at = let r = later at in (r.0, (inr r.1.0, r.1.1, r.1.2))

  found : (rows : List FarmRow) (key : Key) (text : List ℕ) → found_in rows key ≡ Some text → (r : FarmRow) × IsRow rows key text r
  found [] key text at = absurd (none-some text at)
  found (x ∷ xs) key text at = found_by x xs key text (eq_by_cmp key_cmp key (pair_of x)) refl (found xs key text) at

-- ---- the store of a farm

pub stored_is : (format : ℕ) (f : Farm) → rows_from (stored_rows_in format f) ≡ stored_in format f
unfolding stored_in
stored_is format f = refl

get_found : (format : ℕ) (f : Farm) (key : Key) → get (stored_in format f) key ≡ found_in format (rows_in format f) key
unfolding stored_in
get_found format f key = get-from_entries key_total (map entry_of (stored_rows_in format f)) key

-- the store has the bytes of each row
pub get_row : (format : ℕ) (f : Farm) → IsKeptFarm f → HasRowsIn format f → (r : FarmRow) → Has (rows_in format f) r → get (stored_in format f) (pair_of r) ≡ Some (text_in format r)
get_row format f kept has r h = get_found format f (pair_of r) ∙ finds format (rows_in format f) r (rows_rise format f kept has) h

-- what the store has is the bytes of a row
pub got_row : (format : ℕ) (f : Farm) (key : Key) (text : List ℕ) → get (stored_in format f) key ≡ Some text → (r : FarmRow) × IsRow format (rows_in format f) key text r
got_row format f key text at = found format (rows_in format f) key text (sym (get_found format f key) ∙ at)

pub listed : (format : ℕ) (f : Farm) → IsKeptFarm f → HasRowsIn format f → Lists (stored_rows_in format f) (stored_in format f)
listed format f kept has =
    Lists-sorted (stored_rows_in format f) (subst (IsStrictlySortedBy key_cmp) (sym (pairs_in format (rows_in format f))) (rows_rise format f kept has)) ∙ ap entries (stored_is format f)

pub only_listed : (format : ℕ) (f : Farm) (list : List Row) → IsKeptFarm f → HasRowsIn format f → Lists list (stored_in format f) → list ≡ stored_rows_in format f
only_listed format f list kept has lists = Lists-only list (stored_rows_in format f) (stored_in format f) lists (listed format f kept has)

-- ---- farms of one store

head_same : {X : Type 0} (x y : X) (xs ys : List X) → x ∷ xs ≡ y ∷ ys → x ≡ y
head_same x y xs ys e = cc

tail_same : {X : Type 0} (x y : X) (xs ys : List X) → x ∷ xs ≡ y ∷ ys → xs ≡ ys
tail_same x y xs ys e = cc

no_first : {X : Type 0} (x : X) (xs : List X) → [] ≡ x ∷ xs → ⊥
no_first x xs e = cc

stored_same : (rs ss : List FarmRow) → AllByRecursion Fits rs → AllByRecursion Fits ss → map stored_row rs ≡ map stored_row ss → rs ≡ ss
stored_same [] [] fits also e = refl
stored_same [] (s ∷ ss) fits also e = absurd (no_first (stored_row s) (map stored_row ss) e)
stored_same (r ∷ rs) [] fits also e = absurd (no_first (stored_row r) (map stored_row rs) (sym e))
stored_same (r ∷ rs) (s ∷ ss) fits also e =
    let one : stored_row r ≡ stored_row s = head_same (stored_row r) (stored_row s) (map stored_row rs) (map stored_row ss) e in
    let more = stored_same rs ss fits.1 also.1 (tail_same (stored_row r) (stored_row s) (map stored_row rs) (map stored_row ss) e) in
    let row = spelled_once ROW_FORMAT r s (fits.0, inl refl) (also.0, inl refl) (ap (λ (x : Row). x.kind) one) (ap (λ (x : Row). x.id) one) (ap (λ (x : Row). x.bytes) one) in
    λ i. row i ∷ more i

ok_same : {X Y : Type 0} (x y : X) → ◌≡◌ {A = Result X Y} (Ok x) (Ok y) → x ≡ y
ok_same x y e = cc

pub one_farm : (f g : Farm) → IsKeptFarm f → IsKeptFarm g → AllByRecursion Fits (rows_of f) → AllByRecursion Fits (rows_of g) → stored f ≡ stored g → f ≡ g
one_farm f g kept also fits fit same =
    let lists = only_listed ROW_FORMAT g (stored_rows f) also (inl refl) (listed ROW_FORMAT f kept (inl refl) ∙ ap entries same) in
    let rows = stored_same (rows_of f) (rows_of g) fits fit lists in
    let one = ok_same (record { farm = f; format = ROW_FORMAT }) (record { farm = g; format = ROW_FORMAT }) (sym (rows_say f kept) ∙ ap farm_said rows ∙ rows_say g also) in
    ap (λ (s : Said). s.farm) one
