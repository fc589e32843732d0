-- Laws of rows: their order, what a batch makes of them at one kind and id, and the one list of them.
use Rattle.std.proofs.Common.{◌≡◌, refl, sym, ap, subst, ◌∙◌, List, [], ◌∷◌, ◌++◌, map, arith, inl, inr, ℕ, zero, suc, Bool, true, false, cond, ◌||◌, ◌&&◌, Option, None, Some, T, Less}
use Rattle.std.specs.Prelude.{◌⊎◌}
use Rattle.std.specs.Ordering.{eq_by_cmp, is_lt, nat_cmp}
use Rattle.std.specs.Cmp.{IsTotalOrder, eq_by_cmp_equiv, nat_cmp_total}
use Rattle.std.specs.List.{AllByRecursion, Contains, IsDistinct}
use Rattle.std.specs.List.Sorted.{IsStrictlySortedBy}
use Rattle.std.specs.FinMap.{entries, entries-from_sorted, find, from_sorted, get, get-entries, get-from_entries, get-from_sorted, get-insert, get-remove, insert, is_sorted, remove, same_map}
use Rattle.std.specs.FinMap.Entries.{below_all}
use Rattle.std.proofs.lemmas.Bool.{false≢true}
use Rattle.std.proofs.lemmas.Cmp.{on_total, then_total}
use Rattle.std.proofs.lemmas.Map.Keys.{IsDistinct-head, IsDistinct-tail, sorted_head, sorted_tail}
use Rattle.std.proofs.lemmas.Map.Lookups.{CmpEqualImpliesEq, exact_pairs, exact_unsigned}
use Rattle.std.proofs.lemmas.Map.Views.{list_any-from_Contains}
use Rattle.farm_keeper.specs.declared.row.Row.{Row}
use Rattle.farm_keeper.specs.declared.row.Batch.{Batch}
use Rattle.farm_keeper.specs.Rows.{Key, Lists, NamesEachOnce, Rows, after, delete_all, entry_of, is_among, key_cmp, key_of, keys_of, put_all, rows_from}

-- kinds and ids are in a total order
pub key_total : IsTotalOrder key_cmp
key_total = then_total (on_total (λ (k : Key). k.0) nat_cmp_total) (on_total (λ (k : Key). k.1) nat_cmp_total)

-- kinds and ids that compare alike are one
pub exact_key : CmpEqualImpliesEq key_cmp
exact_key = exact_pairs nat_cmp nat_cmp exact_unsigned exact_unsigned

-- rows that answer alike at each kind and id are one
pub same_rows : (m n : Rows) → ((key : Key) → get m key ≡ get n key) → m ≡ n
same_rows = same_map key_total exact_key

-- the bytes at a kind and id after rows are put in turn
abbrev pub put_at : Key → List Row → Option (List ℕ) → Option (List ℕ)
put_at key [] old = old
put_at key (row ∷ more) old = put_at key more (cond (eq_by_cmp key_cmp key (key_of row)) (Some row.bytes) old)

pub get-put_all : (puts : List Row) (rows : Rows) (key : Key) → get (put_all puts rows) key ≡ put_at key puts (get rows key)
get-put_all [] rows key = refl
get-put_all (row ∷ more) rows key =
    get-put_all more (insert rows (key_of row) row.bytes) key ∙ ap (put_at key more) (get-insert key_total rows (key_of row) row.bytes key)

either_deletes : (a b : Bool) (old : Option (List ℕ)) → cond b None (cond a None old) ≡ cond (a || b) None old
either_deletes true true old = refl
either_deletes true false old = refl
either_deletes false b old = refl

pub get-delete_all : (keys : List Key) (rows : Rows) (key : Key) → get (delete_all keys rows) key ≡ cond (is_among keys key) None (get rows key)
get-delete_all [] rows key = refl
get-delete_all (other ∷ more) rows key =
    get-delete_all more (remove rows other) key ∙ ap (cond (is_among more key) None) (get-remove key_total rows other key)
    ∙ either_deletes (eq_by_cmp key_cmp key other) (is_among more key) (get rows key)

-- the rows after a batch, at any kind and id
pub get-after : (batch : Batch) (rows : Rows) (key : Key)
    → get (after batch rows) key ≡ cond (is_among batch.deletes key) None (put_at key batch.puts (get rows key))
get-after batch rows key =
    get-delete_all batch.deletes (put_all batch.puts rows) key
    ∙ ap (cond (is_among batch.deletes key) None) (get-put_all batch.puts rows key)

neither : (a b : Bool) → (a || b) ≡ false → (a ≡ false) × (b ≡ false)
neither true b is = absurd (false≢true (sym is))
neither false b is = (refl, is)

-- where no row of the kind and id is put
pub put_at-other : (puts : List Row) (key : Key) (old : Option (List ℕ)) → is_among (map key_of puts) key ≡ false → put_at key puts old ≡ old
put_at-other [] key old none = refl
put_at-other (row ∷ more) key old none =
    let here = neither (eq_by_cmp key_cmp key (key_of row)) (is_among (map key_of more) key) none in
    ap (λ b. put_at key more (cond b (Some row.bytes) old)) here.0 ∙ put_at-other more key old here.1

contains_cases : {A : Type 0} (x : A) (xs : List A) (y : A) → Contains (x ∷ xs) y → (x ≡ y) ⊎ Contains xs y
contains_cases x xs y (zero, within, is) = inl is
contains_cases x xs y (suc k, within, is) = inr (k, omega arith, is)

none_among : (keys : List Key) (key : Key) → AllByRecursion (λ other. eq_by_cmp key_cmp key other ≡ false) keys → is_among keys key ≡ false
none_among [] key differ = refl
none_among (other ∷ more) key differ = ap (λ b. b || is_among more key) differ.0 ∙ none_among more key differ.1

all_left : {A : Type 0} (P : A → Type 0) (xs ys : List A) → AllByRecursion P (xs ++ ys) → AllByRecursion P xs
all_left P [] ys all = tt
all_left P (x ∷ xs) ys all = (all.0, all_left P xs ys all.1)

all_right : {A : Type 0} (P : A → Type 0) (xs ys : List A) → AllByRecursion P (xs ++ ys) → AllByRecursion P ys
all_right P [] ys all = all
all_right P (x ∷ xs) ys all = all_right P xs ys all.1

put_first : (first : Row) (more : List Row) (deletes : List Key) (row : Row) (old : Option (List ℕ)) → (first ≡ row) ⊎ Contains more row
    → is_among (map key_of more) (key_of first) ≡ false → is_among deletes (key_of first) ≡ false
    → (Contains more row → (put_at (key_of row) more (cond (eq_by_cmp key_cmp (key_of row) (key_of first)) (Some first.bytes) old) ≡ Some row.bytes)
    × (is_among deletes (key_of row) ≡ false))
    → (put_at (key_of row) (first ∷ more) old ≡ Some row.bytes) × (is_among deletes (key_of row) ≡ false)
put_first first more deletes row old (inl is) alone kept later =
    subst (λ r. (put_at (key_of r) (first ∷ more) old ≡ Some r.bytes) × (is_among deletes (key_of r) ≡ false)) is (
      put_at-other more (key_of first) _ alone
          ∙ ap (λ b. cond b (Some first.bytes) old) ((eq_by_cmp_equiv key_total).refl (key_of first)),
      kept,
    )
put_first first more deletes row old (inr has) alone kept later = later has

-- a row that is put, where no other put and no delete is of its kind and id
pub put_at-once : (puts : List Row) (deletes : List Key) (row : Row) (old : Option (List ℕ)) → IsDistinct (eq_by_cmp key_cmp) (map key_of puts ++ deletes)
    → Contains puts row → (put_at (key_of row) puts old ≡ Some row.bytes) × (is_among deletes (key_of row) ≡ false)
put_at-once [] deletes row old once (k, within, is) = absurd (omega (arith, within))
put_at-once (first ∷ more) deletes row old once has =
    let rest = IsDistinct-tail (eq_by_cmp key_cmp) (key_of first) (map key_of more ++ deletes) once in
    let apart = IsDistinct-head (eq_by_cmp key_cmp) (key_of first) (map key_of more ++ deletes) once in
    let P = λ (other : Key). eq_by_cmp key_cmp (key_of first) other ≡ false in
    put_first first more deletes row old (contains_cases first more row has)
    (none_among (map key_of more) (key_of first) (all_left P (map key_of more) deletes apart))
    (none_among deletes (key_of first) (all_right P (map key_of more) deletes apart))
    (put_at-once more deletes row (cond (eq_by_cmp key_cmp (key_of row) (key_of first)) (Some first.bytes) old) rest)

-- a row that a batch puts is there after it
pub after-put : (batch : Batch) (rows : Rows) (row : Row) → NamesEachOnce batch → Contains batch.puts row
    → get (after batch rows) (key_of row) ≡ Some row.bytes
after-put batch rows row once has =
    let is = put_at-once batch.puts batch.deletes row (get rows (key_of row)) once has in
    get-after batch rows (key_of row) ∙ ap (λ b. cond b None (put_at (key_of row) batch.puts (get rows (key_of row)))) is.1 ∙ is.0

-- a row that a batch deletes isn't
pub after-deleted : (batch : Batch) (rows : Rows) (key : Key) → Contains batch.deletes key → get (after batch rows) key ≡ None
after-deleted batch rows key has =
    get-after batch rows key
    ∙ ap (λ b. cond b None (put_at key batch.puts (get rows key))) (list_any-from_Contains (eq_by_cmp_equiv key_total) key batch.deletes has)

neither_among : (xs ys : List Key) (key : Key) → is_among (xs ++ ys) key ≡ false → (is_among xs key ≡ false) × (is_among ys key ≡ false)
neither_among [] ys key none = (refl, none)
neither_among (x ∷ xs) ys key none =
    let here = neither (eq_by_cmp key_cmp key x) (is_among (xs ++ ys) key) none in
    let rest = neither_among xs ys key here.1 in
    (ap (λ b. b || is_among xs key) here.0 ∙ rest.0, rest.1)

-- each other row stays
pub after-other : (batch : Batch) (rows : Rows) (key : Key) → is_among (keys_of batch) key ≡ false → get (after batch rows) key ≡ get rows key
after-other batch rows key none =
    let apart = neither_among (map key_of batch.puts) batch.deletes key none in
    get-after batch rows key ∙ ap (λ b. cond b None (put_at key batch.puts (get rows key))) apart.1
    ∙ put_at-other batch.puts key (get rows key) apart.0

-- an empty batch changes nothing
pub after-nothing : (batch : Batch) (rows : Rows) → batch.puts ≡ [] → batch.deletes ≡ [] → after batch rows ≡ rows
after-nothing batch rows puts deletes i = delete_all (deletes i) (put_all (puts i) rows)

abbrev row_from : Key × List ℕ → Row
row_from e = record { kind = e.0.0; id = e.0.1; bytes = e.1 }

again : (list : List Row) → map row_from (map entry_of list) ≡ list
again [] = refl
again (row ∷ more) = ap (◌∷◌ row) (again more)

-- an entry of a row is that of no other
pub same_list : (list other : List Row) → map entry_of list ≡ map entry_of other → list ≡ other
same_list list other is = sym (again list) ∙ ap (map row_from) is ∙ again other

-- two lists of the same rows are one
pub Lists-only : (list other : List Row) (rows : Rows) → Lists list rows → Lists other rows → list ≡ other
Lists-only list other rows is also = same_list list other (is ∙ sym also)

find_entries : (list : List Row) (key : Key) → get (rows_from list) key ≡ find key_cmp key (map entry_of list)
find_entries list key = get-from_entries key_total (map entry_of list) key

-- the rows of the list of them
pub Lists-from : (list : List Row) (rows : Rows) → Lists list rows → rows_from list ≡ rows
Lists-from list rows is = same_rows (rows_from list) rows (λ key.
    find_entries list key ∙ ap (find key_cmp key) is ∙ sym (get-entries rows key))

both : (a b : Bool) → T a → T b → T (a && b)
both true b p q = q
both false b p q = p

below_entries : (key : Key) (list : List Row) → AllByRecursion (λ other. key_cmp key other ≡ Less) (map key_of list)
    → T (below_all key_cmp key (map entry_of list))
below_entries key [] below = tt
below_entries key (row ∷ more) below = both _ _ (subst (λ o. T (is_lt o)) (sym below.0) tt) (below_entries key more below.1)

-- a list whose kinds and ids rise has entries in order
pub sorted_entries : (list : List Row) → IsStrictlySortedBy key_cmp (map key_of list) → T (is_sorted key_cmp (map entry_of list))
sorted_entries [] rise = tt
sorted_entries (row ∷ more) rise =
    both _ _ (below_entries (key_of row) more (sorted_head key_cmp (key_of row) (map key_of more) rise))
    (sorted_entries more (sorted_tail key_cmp (key_of row) (map key_of more) rise))

-- it is the list of its rows
pub Lists-sorted : (list : List Row) → IsStrictlySortedBy key_cmp (map key_of list) → Lists list (rows_from list)
Lists-sorted list rise =
    let sorted = sorted_entries list rise in
    let is : rows_from list ≡ from_sorted (map entry_of list) =
    same_rows (rows_from list) (from_sorted (map entry_of list)) (λ key.
    find_entries list key ∙ sym (get-from_sorted key_cmp (map entry_of list) key sorted)) in
    sym (ap entries is ∙ entries-from_sorted key_cmp (map entry_of list) sorted)
