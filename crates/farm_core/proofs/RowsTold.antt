-- The rows of depends, found by their numbers, each the least above the one before.
use Rattle.std.proofs.Common.{◌≡◌, ◌∙◌, ◌<◌, ◌≤◌, ◌+◌, ℕ, suc, zero, Bool, true, false, cond, eqb, ltb, List, [], ◌∷◌, ◌++◌, append_assoc, map, length, Some, None, option_map, refl, sym, ap, arith}
use Rattle.std.specs.List.{filter, find, slice_get}
use Rattle.std.proofs.lemmas.Bool.{eq-eqb, le-ltb, lt-ltb, ltb-false, ltb-true, ne_eqb}
use Rattle.std.proofs.lemmas.Option.{none-some, same_Some}
use Rattle.farm_types.specs.declared.depend.DependRow.{DependRow}
use Rattle.farm_types.specs.Rising.{IsRising, depend_key}
use Rattle.farm_rows.specs.declared.farm_row.FarmRow.TheVariants as row
use Rattle.depend_book.specs.Book.{DependLists, row_in}
use Rattle.farm_core.specs.AllRows.{numbers_above, row_told, rows_told}

-- ---- numbers

abbrev is_above : ℕ → DependRow → Bool
is_above after d = ltb after d.depend

-- all are above what is below the first
all_above : (after low : ℕ) (rows : List DependRow) (high : ℕ) → after < low → IsRising depend_key low rows high → numbers_above after rows ≡ map depend_key rows
all_above after low [] high below rise = refl
all_above after low (d ∷ ds) high below rise =
    ap (λ (b : Bool). map depend_key (cond b (d ∷ filter (is_above after) ds) (filter (is_above after) ds))) (lt-ltb after d.depend (omega (arith, below, rise.0)))
    ∙ ap (λ (ns : List ℕ). d.depend ∷ ns) (all_above after (d.depend + 1) ds high (omega (arith, below, rise.0)) rise.1)

pub numbers_all : (rows : List DependRow) (high : ℕ) → IsRising depend_key 1 rows high → numbers_above 0 rows ≡ map depend_key rows
numbers_all rows high rise = all_above 0 1 rows high (omega arith) rise

pub numbers_none : (after : ℕ) (rows : List DependRow) → option_map depend_key (find (is_above after) rows) ≡ None → numbers_above after rows ≡ []
numbers_none after [] none = refl
numbers_none after (d ∷ ds) none = by (ltb after d.depend) none (numbers_none after ds)
  where
    by : (b : Bool) → option_map depend_key (cond b (Some d) (find (is_above after) ds)) ≡ None → (option_map depend_key (find (is_above after) ds) ≡ None → numbers_above after ds ≡ [])
        → map depend_key (cond b (d ∷ filter (is_above after) ds) (filter (is_above after) ds)) ≡ []
    by true found more = absurd (none-some d.depend (sym found))
    by false found more = more found

-- what is found is the first number above, and the others are those above it
numbers_next : (after low n : ℕ) (rows : List DependRow) (high : ℕ) → IsRising depend_key low rows high → option_map depend_key (find (is_above after) rows) ≡ Some n
    → (after < n) × (numbers_above after rows ≡ n ∷ numbers_above n rows)
numbers_next after low n [] high rise found = absurd (none-some n found)
numbers_next after low n (d ∷ ds) high rise found = by (ltb after d.depend) refl found (numbers_next after (d.depend + 1) n ds high rise.1)
  where
    by : (b : Bool) → ltb after d.depend ≡ b → option_map depend_key (cond b (Some d) (find (is_above after) ds)) ≡ Some n
        → (option_map depend_key (find (is_above after) ds) ≡ Some n → (after < n) × (numbers_above after ds ≡ n ∷ numbers_above n ds))
        → (after < n) × (map depend_key (cond b (d ∷ filter (is_above after) ds) (filter (is_above after) ds)) ≡ n ∷ map depend_key (cond (ltb n d.depend) (d ∷ filter (is_above n) ds) (filter (is_above n) ds)))
    by true is at more =
        let first : d.depend ≡ n = same_Some d.depend n at in
        let over : after < d.depend = ltb-true after d.depend is in
        let none : ltb n d.depend ≡ false = le-ltb n d.depend (omega (arith, first)) in (
          omega (arith, over, first),
          (λ i. first i ∷ all_above after (d.depend + 1) ds high (omega (arith, over)) rise.1 i)
              ∙ (sym (ap (λ (ns : List ℕ). n ∷ ns) (all_above n (d.depend + 1) ds high (omega (arith, first)) rise.1))
              ∙ sym (ap (λ (b : Bool). n ∷ map depend_key (cond b (d ∷ filter (is_above n) ds) (filter (is_above n) ds))) none)),
        )
    by false is at more =
        let rest = more at in
        let before : ltb n d.depend ≡ false = le-ltb n d.depend (omega (arith, ltb-false after d.depend is, rest.0)) in
        (rest.0, rest.1 ∙ sym (ap (λ (b : Bool). n ∷ map depend_key (cond b (d ∷ filter (is_above n) ds) (filter (is_above n) ds))) before))

-- one number more
pub number_more : (found news all : List ℕ) (after n : ℕ) (rows : List DependRow) (high : ℕ) → IsRising depend_key 1 rows high → option_map depend_key (find (is_above after) rows) ≡ Some n
    → news ≡ found ++ n ∷ [] → found ++ numbers_above after rows ≡ all → news ++ numbers_above n rows ≡ all
number_more found news all after n rows high rise first more so_far =
    let next = numbers_next after 1 n rows high rise first in
    ap (λ (ns : List ℕ). ns ++ numbers_above n rows) more ∙ (append_assoc found (n ∷ []) (numbers_above n rows) ∙ (ap (λ (ns : List ℕ). found ++ ns) (sym next.1) ∙ so_far))

pub numbers_fewer : (after n : ℕ) (rows : List DependRow) (high : ℕ) → IsRising depend_key 1 rows high → option_map depend_key (find (is_above after) rows) ≡ Some n
    → length (numbers_above n rows) < length (numbers_above after rows)
numbers_fewer after n rows high rise first =
    let long : length (numbers_above after rows) ≡ length (n ∷ numbers_above n rows) = ap (λ (ns : List ℕ). length ns) (numbers_next after 1 n rows high rise first).1 in
    omega (arith, long)

-- ---- rows

found_row : (low : ℕ) (rows : List DependRow) (high i : ℕ) (d : DependRow) → IsRising depend_key low rows high → slice_get rows i ≡ Some d
    → (low ≤ d.depend) × (find (λ (e : DependRow). eqb e.depend d.depend) rows ≡ Some d)
found_row low [] high i d rise at = absurd (none-some d at)
found_row low (x ∷ xs) high zero d rise at =
    let same : x ≡ d = same_Some x d at in
    let number : x.depend ≡ d.depend = ap depend_key same in
    (omega (arith, rise.0, number), ap (λ (b : Bool). cond b (Some x) (find (λ (e : DependRow). eqb e.depend d.depend) xs)) (eq-eqb x.depend d.depend number) ∙ ap (λ (e : DependRow). Some e) same)
found_row low (x ∷ xs) high (suc i) d rise at =
    let later = found_row (x.depend + 1) xs high i d rise.1 at in
    let other : eqb x.depend d.depend ≡ false = ne_eqb x.depend d.depend (λ e. absurd (omega (arith, e, later.0))) in
    (omega (arith, rise.0, later.0), ap (λ (b : Bool). cond b (Some x) (find (λ (e : DependRow). eqb e.depend d.depend) xs)) other ∙ later.1)

each_told : (b : DependLists) (rows : List DependRow) → ((i : ℕ) (d : DependRow) → slice_get rows i ≡ Some d → row_in b d.depend ≡ Some d) → rows_told b (map depend_key rows) ≡ map row.Depend rows
each_told b [] found = refl
each_told b (d ∷ ds) found = λ i. row_told (found 0 d refl i) ++ each_told b ds (λ k e at. found (suc k) e at) i

-- the rows of all numbers are all rows
pub all_told : (b : DependLists) (high : ℕ) → IsRising depend_key 1 b.rows high → rows_told b (map depend_key b.rows) ≡ map row.Depend b.rows
all_told b high rise = each_told b b.rows (λ i d at. (found_row 1 b.rows high i d rise at).1)
