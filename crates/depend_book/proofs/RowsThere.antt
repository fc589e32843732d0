-- The rows at places that aren't gone.
use Rattle.std.proofs.Common.{◌≡◌, ℕ, suc, ◌+◌, ◌<◌, ◌≤◌, Bool, true, false, not, cond, List, [], ◌∷◌, ◌++◌, map, eqb, ltb, drop, length, Option, Some, None, option_map, refl, sym, ap, ◌∙◌, length-append, arith}
use Rattle.std.specs.Prelude.{◌&&◌, ◌||◌, find}
use Rattle.std.specs.List.{filter, count_by, position_or_len, slice_get}
use Rattle.std.proofs.lemmas.Bool.{eqb-true, eq-eqb, lt-ltb, ltb-true, ne_eqb, true≢false}
use Rattle.std.proofs.lemmas.List.{length-map}
use Rattle.std.proofs.lemmas.List.Sums.{length-filter}
use Rattle.std.proofs.lemmas.List.Folds.{find_at}
use Rattle.farm_types.specs.declared.depend.DependRow.{DependRow}
use Rattle.farm_types.specs.DependActs.{satisfied_row}
use Rattle.farm_types.specs.Finish.{waits_by}
use Rattle.farm_types.specs.Rising.{IsRising, depend_key}
use Rattle.depend_book.specs.declared.row_list.RowPlace.{RowPlace}
use Rattle.depend_book.specs.Rows.{emptied, emptied_by, is_there, met_place, place_key, row_here, rows_there, satisfied_place, satisfied_places, there_at}
use Rattle.depend_book.specs.Book.{waits_in_one}
use Rattle.depend_book.specs.Satisfied.{satisfied_all}
use Rattle.depend_book.proofs.PlaceChanged.{rising_changed}

pub rows_count : (xs : List RowPlace) → length (rows_there xs) ≡ count_by is_there xs
rows_count xs = length-map (filter is_there xs) row_here ∙ length-filter is_there xs

-- ---- a row goes

abbrev is_other : ℕ → DependRow → Bool
is_other n d = not (eqb d.depend n)

pub rows_left : (n : ℕ) (xs : List RowPlace) → rows_there (map (emptied_by n) xs) ≡ filter (is_other n) (rows_there xs)
rows_left n [] = refl
rows_left n (x ∷ xs) = by_key (eqb x.row.depend n) refl (is_there x) refl (rows_left n xs) where
  news : List RowPlace
  news = map (emptied_by n) xs

  rest : List DependRow
  rest = filter (is_other n) (rows_there xs)

  kept : (b : Bool) → eqb x.row.depend n ≡ b → cond (is_other n x.row) (x.row ∷ rest) rest ≡ cond (not b) (x.row ∷ rest) rest
  kept b is = ap (λ c. cond (not c) (x.row ∷ rest) rest) is

  by_key : (b : Bool) → eqb x.row.depend n ≡ b → (t : Bool) → is_there x ≡ t → rows_there news ≡ rest
      → map row_here (cond (is_there (cond b (emptied x) x)) (cond b (emptied x) x ∷ filter is_there news) (filter is_there news)) ≡ filter (is_other n) (map row_here (cond t (x ∷ filter is_there xs) (filter is_there xs)))
  by_key true is true there more = more ∙ sym (kept true is)
  by_key true is false there more = more
  by_key false is true there more =
      ap (λ t. map row_here (cond t (x ∷ filter is_there news) (filter is_there news))) there ∙ (ap (λ (ds : List DependRow). x.row ∷ ds) more ∙ sym (kept false is))
  by_key false is false there more = ap (λ t. map row_here (cond t (x ∷ filter is_there news) (filter is_there news))) there ∙ more

-- ---- rows are satisfied

pub rows_met : (n : ℕ) (xs : List RowPlace) → rows_there (map (satisfied_place n) xs) ≡ map (satisfied_row n) (rows_there xs)
rows_met n [] = refl
rows_met n (x ∷ xs) = by_key (eqb x.row.depend n) refl (is_there x) refl (rows_met n xs) where
  news : List RowPlace
  news = map (satisfied_place n) xs

  by_key : (b : Bool) → eqb x.row.depend n ≡ b → (t : Bool) → is_there x ≡ t → rows_there news ≡ map (satisfied_row n) (rows_there xs)
      → map row_here (cond (is_there (cond b (met_place x) x)) (cond b (met_place x) x ∷ filter is_there news) (filter is_there news)) ≡ map (satisfied_row n) (map row_here (cond t (x ∷ filter is_there xs) (filter is_there xs)))
  by_key true is true there more =
      ap (λ t. map row_here (cond t (met_place x ∷ filter is_there news) (filter is_there news))) there ∙ λ i. cond (sym is i) (record x.row { met_all = true }) x.row ∷ more i
  by_key false is true there more =
      ap (λ t. map row_here (cond t (x ∷ filter is_there news) (filter is_there news))) there ∙ λ i. cond (sym is i) (record x.row { met_all = true }) x.row ∷ more i
  by_key true is false there more = ap (λ t. map row_here (cond t (met_place x ∷ filter is_there news) (filter is_there news))) there ∙ more
  by_key false is false there more = ap (λ t. map row_here (cond t (x ∷ filter is_there news) (filter is_there news))) there ∙ more

pub rows_all_met : (ns : List ℕ) (xs : List RowPlace) → rows_there (satisfied_places ns xs) ≡ satisfied_all ns (rows_there xs)
rows_all_met [] xs = refl
rows_all_met (n ∷ ns) xs = rows_all_met ns (map (satisfied_place n) xs) ∙ ap (satisfied_all ns) (rows_met n xs)

-- ---- a row of a number

none_below : (n low : ℕ) (xs : List RowPlace) (high : ℕ) → n < low → IsRising place_key low xs high → find (λ (d : DependRow). eqb d.depend n) (rows_there xs) ≡ None
none_below n low [] high less rise = refl
none_below n low (x ∷ xs) high less rise = by_test (is_there x) (none_below n (x.row.depend + 1) xs high (omega (arith, rise.0, less)) rise.1) where
  by_test : (t : Bool) → find (λ (d : DependRow). eqb d.depend n) (rows_there xs) ≡ None → find (λ (d : DependRow). eqb d.depend n) (map row_here (cond t (x ∷ filter is_there xs) (filter is_there xs))) ≡ None
  by_test true more = ap (λ b. cond b (Some x.row) (find (λ (d : DependRow). eqb d.depend n) (rows_there xs))) (ne_eqb x.row.depend n (λ e. absurd (omega (arith, e, rise.0, less)))) ∙ more
  by_test false more = more

found_there : (n low : ℕ) (xs : List RowPlace) (high : ℕ) → IsRising place_key low xs high → find (λ (d : DependRow). eqb d.depend n) (rows_there xs) ≡ there_at (find (λ (x : RowPlace). eqb (place_key x) n) xs)
found_there n low [] high rise = refl
found_there n low (x ∷ xs) high rise = by_key (eqb x.row.depend n) refl (is_there x) refl (found_there n (x.row.depend + 1) xs high rise.1) where
  test : DependRow → Bool
  test d = eqb d.depend n

  later : Option RowPlace
  later = find (λ (y : RowPlace). eqb (place_key y) n) xs

  by_key : (b : Bool) → eqb x.row.depend n ≡ b → (t : Bool) → is_there x ≡ t → find (λ (d : DependRow). eqb d.depend n) (rows_there xs) ≡ there_at (find (λ (y : RowPlace). eqb (place_key y) n) xs)
      → find (λ (d : DependRow). eqb d.depend n) (map row_here (cond t (x ∷ filter is_there xs) (filter is_there xs))) ≡ there_at (cond (eqb x.row.depend n) (Some x) (find (λ (y : RowPlace). eqb (place_key y) n) xs))
  by_key true is true there more =
      ap (λ b. cond b (Some x.row) (find (λ (d : DependRow). eqb d.depend n) (rows_there xs))) is
      ∙ (sym (ap (λ t. cond t (Some x.row) None) there) ∙ ap (λ b. there_at (cond b (Some x) (find (λ (y : RowPlace). eqb (place_key y) n) xs))) (sym is))
  by_key true is false there more =
      none_below n (x.row.depend + 1) xs high (omega (arith, eqb-true x.row.depend n is)) rise.1
      ∙ (sym (ap (λ t. cond t (Some x.row) None) there) ∙ ap (λ b. there_at (cond b (Some x) (find (λ (y : RowPlace). eqb (place_key y) n) xs))) (sym is))
  by_key false is true there more =
      ap (λ b. cond b (Some x.row) (find (λ (d : DependRow). eqb d.depend n) (rows_there xs))) is
      ∙ (more ∙ ap (λ b. there_at (cond b (Some x) (find (λ (y : RowPlace). eqb (place_key y) n) xs))) (sym is))
  by_key false is false there more = more ∙ ap (λ b. there_at (cond b (Some x) (find (λ (y : RowPlace). eqb (place_key y) n) xs))) (sym is)

-- the row of that number is found at the place of the number
pub row_found : (n low : ℕ) (xs : List RowPlace) (high : ℕ) → IsRising place_key low xs high
    → there_at (slice_get xs (position_or_len (λ (x : RowPlace). eqb (place_key x) n) xs)) ≡ find (λ (d : DependRow). eqb d.depend n) (rows_there xs)
row_found n low xs high rise = ap there_at (sym (find_at (λ (x : RowPlace). eqb (place_key x) n) xs)) ∙ sym (found_there n low xs high rise)

-- ---- the first row above a number

abbrev first_number : ℕ → List DependRow → Option ℕ
first_number after ds = option_map depend_key (find (λ (d : DependRow). ltb after d.depend) ds)

all_above : (after low : ℕ) (xs : List RowPlace) (high : ℕ) → after < low → IsRising place_key low xs high → option_map place_key (find is_there xs) ≡ first_number after (rows_there xs)
all_above after low [] high less rise = refl
all_above after low (x ∷ xs) high less rise = by_test (is_there x) refl (all_above after (x.row.depend + 1) xs high (omega (arith, rise.0, less)) rise.1) where
  by_test : (t : Bool) → is_there x ≡ t → option_map place_key (find is_there xs) ≡ first_number after (rows_there xs)
      → option_map place_key (cond (is_there x) (Some x) (find is_there xs)) ≡ first_number after (map row_here (cond t (x ∷ filter is_there xs) (filter is_there xs)))
  by_test true there more =
      ap (λ t. option_map place_key (cond t (Some x) (find is_there xs))) there
      ∙ ap (λ b. option_map depend_key (cond b (Some x.row) (find (λ (d : DependRow). ltb after d.depend) (rows_there xs)))) (sym (lt-ltb after x.row.depend (omega (arith, rise.0, less))))
  by_test false there more = ap (λ t. option_map place_key (cond t (Some x) (find is_there xs))) there ∙ more

pub next_found : (after low : ℕ) (xs : List RowPlace) (high : ℕ) → IsRising place_key low xs high
    → option_map place_key (find is_there (drop (position_or_len (λ (x : RowPlace). ltb after (place_key x)) xs) xs)) ≡ first_number after (rows_there xs)
next_found after low [] high rise = refl
next_found after low (x ∷ xs) high rise = by_key (ltb after x.row.depend) refl (next_found after (x.row.depend + 1) xs high rise.1) where
  by_there : (t : Bool) → ltb after x.row.depend ≡ false → first_number after (rows_there xs) ≡ first_number after (map row_here (cond t (x ∷ filter is_there xs) (filter is_there xs)))
  by_there true is = ap (λ b. option_map depend_key (cond b (Some x.row) (find (λ (d : DependRow). ltb after d.depend) (rows_there xs)))) (sym is)
  by_there false is = refl

  by_key : (b : Bool) → ltb after x.row.depend ≡ b → option_map place_key (find is_there (drop (position_or_len (λ (y : RowPlace). ltb after (place_key y)) xs) xs)) ≡ first_number after (rows_there xs)
      → option_map place_key (find is_there (drop (position_or_len (λ (y : RowPlace). ltb after (place_key y)) (x ∷ xs)) (x ∷ xs))) ≡ first_number after (rows_there (x ∷ xs))
  by_key true is more =
      let first : position_or_len (λ (y : RowPlace). ltb after (place_key y)) (x ∷ xs) ≡ 0 = rw is refl in
      ap (λ (m : ℕ). option_map place_key (find is_there (drop m (x ∷ xs)))) first ∙ all_above after x.row.depend (x ∷ xs) high (ltb-true after x.row.depend is) (omega arith, rise.1)
  by_key false is more =
      let p = position_or_len (λ (y : RowPlace). ltb after (place_key y)) xs in
      let later : position_or_len (λ (y : RowPlace). ltb after (place_key y)) (x ∷ xs) ≡ suc p = rw is (omega arith) in
      ap (λ (m : ℕ). option_map place_key (find is_there (drop m (x ∷ xs)))) later ∙ (more ∙ by_there (is_there x) is)

-- ---- places are closed up

filter_twice : (xs : List RowPlace) → filter is_there (filter is_there xs) ≡ filter is_there xs
filter_twice [] = refl
filter_twice (x ∷ xs) = by_test (is_there x) refl (filter_twice xs) where
  by_test : (b : Bool) → is_there x ≡ b → filter is_there (filter is_there xs) ≡ filter is_there xs → filter is_there (cond b (x ∷ filter is_there xs) (filter is_there xs)) ≡ cond b (x ∷ filter is_there xs) (filter is_there xs)
  by_test true is more = λ i. cond (is i) (x ∷ more i) (more i)
  by_test false is more = more

pub filter_again : (xs news : List RowPlace) → news ≡ filter is_there xs → filter is_there news ≡ filter is_there xs
filter_again xs news is = ap (filter is_there) is ∙ filter_twice xs

rising_lower : (low less : ℕ) (xs : List RowPlace) (high : ℕ) → less ≤ low → IsRising place_key low xs high → IsRising place_key less xs high
rising_lower low less [] high below rise = omega (arith, rise)
rising_lower low less (x ∷ xs) high below rise = (omega (arith, rise.0), rise.1)

pub rising_there : (low : ℕ) (xs : List RowPlace) (high : ℕ) → IsRising place_key low xs high → IsRising place_key low (filter is_there xs) high
rising_there low [] high rise = rise
rising_there low (x ∷ xs) high rise = by_test (is_there x) (rising_there (x.row.depend + 1) xs high rise.1) where
  by_test : (b : Bool) → IsRising place_key (x.row.depend + 1) (filter is_there xs) high → IsRising place_key low (cond b (x ∷ filter is_there xs) (filter is_there xs)) high
  by_test true more = (rise.0, more)
  by_test false more = rising_lower (x.row.depend + 1) low (filter is_there xs) high (omega (arith, rise.0)) more

-- ---- rows that are satisfied stay where they are

pub rising_met : (ns : List ℕ) (xs : List RowPlace) (high : ℕ) → IsRising place_key 1 xs high → IsRising place_key 1 (satisfied_places ns xs) high
rising_met [] xs high rise = rise
rising_met (n ∷ ns) xs high rise = rising_met ns (map (satisfied_place n) xs) high (rising_changed place_key met_place (λ x. refl) n 1 xs high rise)

pub length_met : (ns : List ℕ) (xs : List RowPlace) → length (satisfied_places ns xs) ≡ length xs
length_met [] xs = refl
length_met (n ∷ ns) xs = length_met ns (map (satisfied_place n) xs) ∙ length-map xs (satisfied_place n)

length_all : (ns : List ℕ) (rows : List DependRow) → length (satisfied_all ns rows) ≡ length rows
length_all [] rows = refl
length_all (n ∷ ns) rows = length_all ns (map (satisfied_row n) rows) ∙ length-map rows (satisfied_row n)

pub count_met : (ns : List ℕ) (xs : List RowPlace) → count_by is_there (satisfied_places ns xs) ≡ count_by is_there xs
count_met ns xs =
    sym (rows_count (satisfied_places ns xs)) ∙ (ap (λ (ds : List DependRow). length ds) (rows_all_met ns xs) ∙ (length_all ns (rows_there xs) ∙ rows_count xs))

-- ---- one more at the end

pub rising_last : (low : ℕ) (xs : List RowPlace) (high : ℕ) (x : RowPlace) → IsRising place_key low xs high → x.row.depend ≡ high → IsRising place_key low (xs ++ x ∷ []) (high + 1)
rising_last low [] high x rise is = (omega (arith, rise, is), omega (arith, is))
rising_last low (y ∷ ys) high x rise is = (rise.0, rising_last (y.row.depend + 1) ys high x rise.1 is)

pub rows_more : (xs : List RowPlace) (x : RowPlace) → is_there x ≡ true → rows_there (xs ++ x ∷ []) ≡ rows_there xs ++ x.row ∷ []
rows_more [] x there = ap (λ t. map row_here (cond t (x ∷ []) [])) there
rows_more (y ∷ ys) x there = by_test (is_there y) (rows_more ys x there) where
  by_test : (t : Bool) → rows_there (ys ++ x ∷ []) ≡ rows_there ys ++ x.row ∷ []
      → map row_here (cond t (y ∷ filter is_there (ys ++ x ∷ [])) (filter is_there (ys ++ x ∷ []))) ≡ map row_here (cond t (y ∷ filter is_there ys) (filter is_there ys)) ++ x.row ∷ []
  by_test true more = ap (λ (ds : List DependRow). y.row ∷ ds) more
  by_test false more = more

pub count_more : (xs : List RowPlace) (x : RowPlace) → is_there x ≡ true → count_by is_there (xs ++ x ∷ []) ≡ count_by is_there xs + 1
count_more xs x there =
    let more = ap (λ (ds : List DependRow). length ds) (rows_more xs x there) in
    omega (arith, sym (rows_count (xs ++ x ∷ [])), more, length-append (rows_there xs) (x.row ∷ []), rows_count xs)

-- ---- fewer where a row of a number goes

others_above : (n low : ℕ) (ds : List DependRow) (high : ℕ) → n < low → IsRising depend_key low ds high → filter (is_other n) ds ≡ ds
others_above n low [] high less rise = refl
others_above n low (d ∷ ds) high less rise =
    let more = others_above n (d.depend + 1) ds high (omega (arith, rise.0, less)) rise.1 in
    λ i. cond (not (ne_eqb d.depend n (λ e. absurd (omega (arith, e, rise.0, less))) i)) (d ∷ more i) (more i)

fewer_by : (job n low : ℕ) (ds : List DependRow) (high : ℕ) → IsRising depend_key low ds high → waits_in_one job ds n ≡ true → length (filter (is_other n) ds) + 1 ≡ length ds
fewer_by job n low [] high rise waits = absurd (true≢false (sym waits))
fewer_by job n low (d ∷ ds) high rise waits = by_key (eqb d.depend n) refl (fewer_by job n (d.depend + 1) ds high rise.1) where
  off : (a b : Bool) → ((a && false) || b) ≡ b
  off true b = refl
  off false b = refl

  by_key : (b : Bool) → eqb d.depend n ≡ b → (waits_in_one job ds n ≡ true → length (filter (is_other n) ds) + 1 ≡ length ds) → length (cond (not b) (d ∷ filter (is_other n) ds) (filter (is_other n) ds)) + 1 ≡ length (d ∷ ds)
  by_key true is more = omega (arith, ap (λ (xs : List DependRow). length xs) (others_above n (d.depend + 1) ds high (omega (arith, eqb-true d.depend n is)) rise.1))
  by_key false is more =
      let later : waits_in_one job ds n ≡ true =
      sym (off (waits_by job d) (waits_in_one job ds n))
      ∙ (sym (ap (λ b. (waits_by job d && b) || waits_in_one job ds n) (ne_eqb n d.depend (λ e. true≢false (sym (eq-eqb d.depend n (sym e)) ∙ is)))) ∙ waits) in
      omega (arith, more later)

rising_rows : (low : ℕ) (xs : List RowPlace) (high : ℕ) → IsRising place_key low xs high → IsRising depend_key low (map row_here xs) high
rising_rows low [] high rise = rise
rising_rows low (x ∷ xs) high rise = (rise.0, rising_rows (x.row.depend + 1) xs high rise.1)

pub fewer_left : (job n : ℕ) (xs : List RowPlace) (high : ℕ) → IsRising place_key 1 xs high → waits_in_one job (rows_there xs) n ≡ true → length (filter (is_other n) (rows_there xs)) + 1 ≡ length (rows_there xs)
fewer_left job n xs high rise waits = fewer_by job n 1 (rows_there xs) high (rising_rows 1 (filter is_there xs) high (rising_there 1 xs high rise)) waits
