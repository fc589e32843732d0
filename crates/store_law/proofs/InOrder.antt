-- The rows of a farm are in the order of their kinds and ids.
use Rattle.std.proofs.Common.{◌≡◌, ℕ, ◌<◌, true, ◌&&◌, List, [], ◌∷◌, map, Option, Some, None, Ok, Less, Equal, refl, ap, sym, ◌∙◌, inl, inr, ◌⊎◌}
use Rattle.std.specs.Cmp.{nat_cmp_is}
use Rattle.std.specs.List.{AllByRecursion}
use Rattle.std.specs.List.Sorted.{IsStrictlySortedBy}
use Rattle.std.specs.Ordering.{nat_cmp, ordering_then}
use Rattle.farm_types.specs.Farm.{Farm, empty_farm}
use Rattle.farm_types.specs.Kept.{IsKeptFarm}
use Rattle.farm_types.proofs.Lists.{and_both}
use Rattle.farm_rows.specs.declared.farm_row.FarmRow.{FarmRow}
use Rattle.farm_rows.specs.Recovery.{Said, StoredKey, comes_after, farm_with, format_after, is_before, row_fits, with_stored}
use Rattle.farm_rows.specs.declared.head_row.TheConstants.{ROW_FORMAT}
use Rattle.farm_rows.specs.Rows.{HasRowsIn, rows_in}
use Rattle.farm_rows.proofs.RowOrder.{before_parts}
use Rattle.farm_keeper.specs.Rows.{Key, key_cmp, key_of}
use Rattle.farm_keeper.proofs.RowLaws.{key_total}
use Rattle.recovery_law.proofs.Said.{rows_say_in}
use Rattle.recovery_law.proofs.Steps.{taken_by}
use Rattle.store_law.proofs.Keys.{pair_of}
use Rattle.store_law.specs.Stored.{stored_row, stored_row_in}

less_by : (a b : Key) → (a.0 < b.0) ⊎ ((a.0 ≡ b.0) × (a.1 < b.1)) → key_cmp a b ≡ Less
less_by a b (inl kind) = ap (λ o. ordering_then o (nat_cmp a.1 b.1)) (sym (nat_cmp_is a.0 b.0 Less kind))
less_by a b (inr same) =
    ap (λ o. ordering_then o (nat_cmp a.1 b.1)) (sym (nat_cmp_is a.0 b.0 Equal same.0)) ∙ sym (nat_cmp_is a.1 b.1 Less same.1)

-- the order of recovery is that of stores
pub less_before : (a b : Key) → is_before a b ≡ true → key_cmp a b ≡ Less
less_before a b h = less_by a b (before_parts a b h)

abbrev pub pairs : List FarmRow → List Key
pairs rows = map key_of (map stored_row rows)

-- ---- rows that say a farm

-- a row is taken where it comes after the last one, and those behind it are taken after it
taken : (format : ℕ) (last : Option StoredKey) (f : Farm) (r : FarmRow) (rs : List FarmRow) (s : Said) → farm_with format last f (r ∷ rs) ≡ Ok s
    → (comes_after last (pair_of r) ≡ true) × (farm_with (format_after format r) (Some (pair_of r)) (with_stored f r) rs ≡ Ok s)
taken format last f r rs s e =
    let both = taken_by (comes_after last (pair_of r) && row_fits format f r) (pair_of r) (farm_with (format_after format r) (Some (pair_of r)) (with_stored f r) rs) s e in
    ((and_both (comes_after last (pair_of r)) (row_fits format f r) both.0).0, both.1)

later_all : (first next : Key) (keys : List Key) → key_cmp first next ≡ Less → AllByRecursion (λ key. key_cmp next key ≡ Less) keys → AllByRecursion (λ key. key_cmp first key ≡ Less) keys
later_all first next [] less all = tt
later_all first next (key ∷ keys) less all = (key_total.trans first next key less all.0, later_all first next keys less all.1)

after_last : (format : ℕ) (last : Key) (f : Farm) (rows : List FarmRow) (s : Said) → farm_with format (Some last) f rows ≡ Ok s → AllByRecursion (λ key. key_cmp last key ≡ Less) (pairs rows)
after_last format last f [] s e = tt
after_last format last f (r ∷ rs) s e =
    let step = taken format (Some last) f r rs s e in
    let less = less_before last (pair_of r) step.0 in
    (less, later_all last (pair_of r) (pairs rs) less (after_last (format_after format r) (pair_of r) (with_stored f r) rs s step.1))

rise_with : (format : ℕ) (last : Option StoredKey) (f : Farm) (rows : List FarmRow) (s : Said) → farm_with format last f rows ≡ Ok s → IsStrictlySortedBy key_cmp (pairs rows)
unfolding IsStrictlySortedBy
rise_with format last f [] s e = tt
rise_with format last f (r ∷ rs) s e =
    let step = taken format last f r rs s e in
    (after_last (format_after format r) (pair_of r) (with_stored f r) rs s step.1, rise_with (format_after format r) (Some (pair_of r)) (with_stored f r) rs s step.1)

-- the rows of a farm in a format that it has rise by kind and id
pub rows_rise : (format : ℕ) (f : Farm) → IsKeptFarm f → HasRowsIn format f → IsStrictlySortedBy key_cmp (pairs (rows_in format f))
rows_rise format f kept has = rise_with ROW_FORMAT None empty_farm (rows_in format f) (record { farm = f; format = format }) (rows_say_in format f kept has)

-- a row has its kind and id in each format
pub pairs_in : (format : ℕ) (rows : List FarmRow) → map key_of (map (stored_row_in format) rows) ≡ pairs rows
pairs_in format [] = refl
pairs_in format (r ∷ rs) = ap (λ (keys : List Key). pair_of r ∷ keys) (pairs_in format rs)
