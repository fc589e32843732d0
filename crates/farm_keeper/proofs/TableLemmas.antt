-- A table of rows, read at one kind and id.
use Rattle.std.proofs.Common.{◌≡◌, refl, sym, ap, subst, ◌∙◌, List, [], ◌∷◌, ℕ, Bool, true, false, cond, Option, None, Some, ◌&&◌, ◌+◌, Less, Equal, Greater, Ordering, arith, suc, map}
use Rattle.std.specs.Prelude.{nat_eq, slice_index_or}
use Rattle.std.specs.Ordering.{eq_by_cmp, is_eq, is_lt, nat_cmp, ordering_reverse}
use Rattle.std.specs.Cmp.{both_tied, eq_by_cmp_equiv, unsigned_ties}
use Rattle.std.specs.List.{AllByRecursion, IsDistinct}
use Rattle.std.specs.List.Sorted.{IsSorted, IsStrictlySortedBy}
use Rattle.std.specs.Map.{lookup}
use Rattle.std.specs.FinMap.{find, get, get-from_entries, get-insert, get-remove, insert, remove}
use Rattle.std.proofs.lemmas.Bool.{true≢false}
use Rattle.std.proofs.lemmas.Map.Keys.{IsDistinct-head, IsDistinct-tail}
use Rattle.farm_keeper.specs.declared.row.Row.{Row}
use Rattle.farm_keeper.specs.Rows.{Key, Lists, entry_of, key_cmp, key_of}
use Rattle.farm_keeper.specs.Table.{rows_in}
use Rattle.farm_keeper.proofs.RowLaws.{Lists-sorted, key_total, same_rows}

abbrev Entries : Type 0
Entries = List (Key × List ℕ)

-- whether two kinds and ids are one, as the table tests it
abbrev pub key_eq : Key → Key → Bool
key_eq a b = nat_eq a.0 b.0 && nat_eq a.1 b.1

tied : (a b : Key) → key_eq a b ≡ eq_by_cmp key_cmp a b
tied a b = both_tied (nat_eq a.0 b.0) (nat_eq a.1 b.1) (nat_cmp a.0 b.0) (nat_cmp a.1 b.1) (unsigned_ties a.0 b.0) (unsigned_ties a.1 b.1)

turn : (a b : Key) → eq_by_cmp key_cmp a b ≡ eq_by_cmp key_cmp b a
turn = (eq_by_cmp_equiv key_total).symm

found : (entries : Entries) (key : Key) → find key_cmp key entries ≡ lookup (key_eq key) entries
found [] key = refl
found (e ∷ es) key = (λ i. cond (sym (tied key e.0) i) (Some e.1) (found es key i))

-- the row at a kind and id
pub get-rows_in : (entries : Entries) (key : Key) → get (rows_in entries) key ≡ lookup (key_eq key) entries
get-rows_in entries key = get-from_entries key_total entries key ∙ found entries key

-- entries that answer alike at each kind and id are the same rows
pub same_entries : (m n : Entries) → ((key : Key) → lookup (key_eq key) n ≡ lookup (key_eq key) m) → rows_in n ≡ rows_in m
same_entries m n same = same_rows _ _ (λ key. get-rows_in n key ∙ same key ∙ sym (get-rows_in m key))

at_other : (m : Entries) (key other : Key) (value : Option (List ℕ))
    → cond (key_eq key other) value (lookup (key_eq other) m) ≡ cond (eq_by_cmp key_cmp other key) value (get (rows_in m) other)
at_other m key other value = λ i. cond ((tied key other ∙ turn key other) i) value (sym (get-rows_in m other) i)

-- n has the value at the key, and else what m has
abbrev pub Sets : Entries → Entries → Key → Option (List ℕ) → Type 0
Sets m n key value = (other : Key) → lookup (key_eq other) n ≡ cond (key_eq key other) value (lookup (key_eq other) m)

-- an entry that is inserted puts its row
pub table-put : (m n : Entries) (key : Key) (bytes : List ℕ) → Sets m n key (Some bytes) → rows_in n ≡ insert (rows_in m) key bytes
table-put m n key bytes sets = same_rows _ _ (λ other.
    get-rows_in n other ∙ sets other ∙ at_other m key other (Some bytes) ∙ sym (get-insert key_total (rows_in m) key bytes other))

-- one that is removed deletes it
pub table-deleted : (m n : Entries) (key : Key) → Sets m n key None → rows_in n ≡ remove (rows_in m) key
table-deleted m n key sets = same_rows _ _ (λ other.
    get-rows_in n other ∙ sets other ∙ at_other m key other None ∙ sym (get-remove key_total (rows_in m) key other))

abbrev is_greater : Ordering → Bool
is_greater Less = false
is_greater Equal = false
is_greater Greater = true

upward : (o turned : Ordering) → o ≡ ordering_reverse turned → is_lt turned ≡ false → is_eq o ≡ false → o ≡ Less
upward Less turned is least apart = refl
upward Equal turned is least apart = absurd (true≢false apart)
upward Greater Less is least apart = absurd (true≢false least)
upward Greater Equal is least apart = absurd (true≢false (ap is_greater is))
upward Greater Greater is least apart = absurd (true≢false (ap is_greater is))

past : (key : Key) (x : Key) (xs : List Key) → key_cmp key x ≡ Less → AllByRecursion (λ y. key_cmp x y ≡ Less) xs → AllByRecursion (λ y. key_cmp key y ≡ Less) xs
past key x [] below above = tt
past key x (y ∷ ys) below above = (key_total.trans key x y below above.0, past key x ys below above.1)

sorted_rest : (x : Key) (xs : List Key) → IsSorted key_cmp (x ∷ xs) → IsSorted key_cmp xs
sorted_rest x xs sorted = λ k d low high.
    let next : suc k + 1 ≡ suc (k + 1) = omega arith in
    subst (λ n. is_lt (key_cmp (slice_index_or (x ∷ xs) n d) (slice_index_or xs k d)) ≡ false) next (sorted (suc k) d (omega arith) (omega (arith, high)))

-- keys that don't fall and differ rise
pub rising : (keys : List Key) → IsSorted key_cmp keys → IsDistinct key_eq keys → IsStrictlySortedBy key_cmp keys
unfolding IsStrictlySortedBy
rising [] sorted apart = tt
rising (x ∷ []) sorted apart = (tt, tt)
rising (x ∷ y ∷ ys) sorted apart =
    let rest = rising (y ∷ ys) (sorted_rest x (y ∷ ys) sorted) (IsDistinct-tail key_eq x (y ∷ ys) apart) in
    let below : key_cmp x y ≡ Less =
    upward (key_cmp x y) (key_cmp y x) (key_total.antisymm x y) (sorted 0 x (omega arith) (omega arith))
    (sym (tied x y) ∙ (IsDistinct-head key_eq x (y ∷ ys) apart).0) in
    ((below, past x y ys below rest.0), rest)

keys_again : (list : List Row) → map (λ (e : Key × List ℕ). e.0) (map entry_of list) ≡ map key_of list
keys_again [] = refl
keys_again (row ∷ more) = ap (◌∷◌ (key_of row)) (keys_again more)

-- a list of the entries, whose keys rise, is the list of the rows
pub listed : (list : List Row) (entries : Entries) → map entry_of list ≡ entries → IsStrictlySortedBy key_cmp (map (λ (e : Key × List ℕ). e.0) entries) → Lists list (rows_in entries)
listed list entries all rise =
    subst (λ es. Lists list (rows_in es)) all
    (Lists-sorted list (subst (IsStrictlySortedBy key_cmp) (ap (map (λ (e : Key × List ℕ). e.0)) (sym all) ∙ keys_again list) rise))
