-- The rows of a job, from the last one back along what came before each.
use Rattle.std.proofs.Common.{◌≡◌, ℕ, zero, suc, ◌+◌, ◌≤◌, ◌<◌, Bool, true, false, cond, List, [], ◌∷◌, ◌++◌, take, map, length, Option, Some, None, refl, sym, ap, ◌∙◌, arith}
use Rattle.std.specs.Prelude.{◌&&◌}
use Rattle.std.specs.List.{filter, slice_get}
use Rattle.std.proofs.lemmas.Bool.{eq-eqb, eqb-true, ne_eqb}
use Rattle.std.proofs.lemmas.Option.{none-some, same_Some}
use Rattle.farm_types.specs.Finish.{waits_by}
use Rattle.farm_types.specs.Rising.{IsRising}
use Rattle.farm_types.proofs.Lists.{and_both}
use Rattle.depend_book.specs.declared.row_list.RowPlace.{RowPlace}
use Rattle.depend_book.specs.Book.{waiting_from}
use Rattle.depend_book.specs.Rows.{AreChained, is_of, is_there, last_from, older_of, place_key, row_here, rows_there, with_last}

abbrev Seen : Type 0
Seen = ℕ → Option ℕ

-- ---- what came before a row

above : (k low : ℕ) (xs : List RowPlace) (high : ℕ) (x : RowPlace) → IsRising place_key low xs high → slice_get xs k ≡ Some x → low ≤ x.row.depend
above k low [] high x rise at = absurd (none-some x at)
above zero low (y ∷ ys) high x rise at = let same : y.row.depend ≡ x.row.depend = ap place_key (same_Some y x at) in omega (arith, same, rise.0)
above (suc k) low (y ∷ ys) high x rise at = let later = above k (y.row.depend + 1) ys high x rise.1 at in omega (arith, later, rise.0)

pub older_is : (k low : ℕ) (xs : List RowPlace) (high : ℕ) (x : RowPlace) → IsRising place_key low xs high → slice_get xs k ≡ Some x → older_of x.row.depend xs ≡ x.older
older_is k low [] high x rise at = absurd (none-some x at)
older_is zero low (y ∷ ys) high x rise at =
    let same = same_Some y x at in
    ap (λ (b : Bool). cond b y.older (older_of x.row.depend ys)) (eq-eqb y.row.depend x.row.depend (ap place_key same)) ∙ ap (λ (z : RowPlace). z.older) same
older_is (suc k) low (y ∷ ys) high x rise at =
    let over = above k (y.row.depend + 1) ys high x rise.1 at in
    ap (λ (b : Bool). cond b y.older (older_of x.row.depend ys)) (ne_eqb y.row.depend x.row.depend (λ e. absurd (omega (arith, e, over)))) ∙ older_is k (y.row.depend + 1) ys high x rise.1 at

-- ---- numbers from the last one back

module _ (job : ℕ) where
  abbrev down : List ℕ → List RowPlace → List ℕ
  down found [] = found
  down found (x ∷ xs) = down (cond (is_of job x) (x.row.depend ∷ found) found) xs

  pub down_rows : (found : List ℕ) (xs : List RowPlace) → waiting_from job found (rows_there xs) ≡ down found xs
  down_rows found [] = refl
  down_rows found (x ∷ xs) = by_mark (is_there x) refl (λ ns. down_rows ns xs) where
    by_mark : (b : Bool) → is_there x ≡ b → ((ns : List ℕ) → waiting_from job ns (rows_there xs) ≡ down ns xs)
        → waiting_from job found (map row_here (cond b (x ∷ filter is_there xs) (filter is_there xs))) ≡ down (cond (is_of job x) (x.row.depend ∷ found) found) xs
    by_mark true is later = later (cond (waits_by job x.row) (x.row.depend ∷ found) found) ∙ ap (λ (b : Bool). down (cond (b && waits_by job x.row) (x.row.depend ∷ found) found) xs) (sym is)
    by_mark false is later = later found ∙ ap (λ (b : Bool). down (cond (b && waits_by job x.row) (x.row.depend ∷ found) found) xs) (sym is)

  module _ (older : ℕ → Option ℕ) where
    -- each has the next one before it
    abbrev pub Falls : List ℕ → Type 0
    Falls ns = (i n : ℕ) → slice_get ns i ≡ Some n → older n ≡ slice_get ns (suc i)

    falls_more : (n : ℕ) (ns : List ℕ) → older n ≡ slice_get ns 0 → Falls ns → Falls (n ∷ ns)
    falls_more n ns first falls zero m at = ap older (sym (same_Some n m at)) ∙ first
    falls_more n ns first falls (suc i) m at = falls i m at

    pub falls_down : (seen : Seen) (found : List ℕ) (xs : List RowPlace) → AreChained seen xs → seen job ≡ slice_get found 0 → Falls found
        → ((k : ℕ) (x : RowPlace) → slice_get xs k ≡ Some x → older x.row.depend ≡ x.older) → Falls (down found xs) × (last_from seen xs job ≡ slice_get (down found xs) 0)
    falls_down seen found [] c first falls olds = (falls, first)
    falls_down seen found (x ∷ xs) c first falls olds =
        by_mark (is_of job x) refl (λ ns first_then falls_then. falls_down (with_last x seen) ns xs c.1 first_then falls_then (λ k y at. olds (suc k) y at))
      where
        by_mark : (b : Bool) → is_of job x ≡ b
            → ((ns : List ℕ) → with_last x seen job ≡ slice_get ns 0 → Falls ns → Falls (down ns xs) × (last_from (with_last x seen) xs job ≡ slice_get (down ns xs) 0))
            → Falls (down (cond b (x.row.depend ∷ found) found) xs) × (last_from (with_last x seen) xs job ≡ slice_get (down (cond b (x.row.depend ∷ found) found) xs) 0)
        by_mark true is later =
            let both = and_both (is_there x) (waits_by job x.row) is in
            let own : x.row.waiter.job ≡ job = eqb-true x.row.waiter.job job both.1 in
            let before : older x.row.depend ≡ slice_get found 0 = olds 0 x refl ∙ (c.0 both.0 ∙ (ap seen own ∙ first)) in
            later (x.row.depend ∷ found) (ap (λ (b : Bool). cond b (Some x.row.depend) (seen job)) is) (falls_more x.row.depend found before falls)
        by_mark false is later = later found (ap (λ (b : Bool). cond b (Some x.row.depend) (seen job)) is ∙ first) falls

-- one more of the first ones
pub take_next : (i n : ℕ) (ns : List ℕ) → slice_get ns i ≡ Some n → take (suc i) ns ≡ take i ns ++ n ∷ []
take_next i n [] at = absurd (none-some n at)
take_next zero n (m ∷ ms) at = ap (λ (k : ℕ). k ∷ []) (same_Some m n at)
take_next (suc i) n (m ∷ ms) at = ap (λ (ks : List ℕ). m ∷ ks) (take_next i n ms at)

pub take_past : (i : ℕ) (ns : List ℕ) → slice_get ns i ≡ None → take i ns ≡ ns
take_past i [] past = take_none i where
  take_none : (k : ℕ) → take {A = ℕ} k [] ≡ []
  take_none zero = refl
  take_none (suc k) = refl
take_past zero (m ∷ ms) past = absurd (none-some m (sym past))
take_past (suc i) (m ∷ ms) past = ap (λ (ks : List ℕ). m ∷ ks) (take_past i ms past)

pub within : (i n : ℕ) (ns : List ℕ) → slice_get ns i ≡ Some n → i < length ns
within i n [] at = absurd (none-some n at)
within zero n (m ∷ ms) at = omega arith
within (suc i) n (m ∷ ms) at = let later = within i n ms at in omega (arith, later)
