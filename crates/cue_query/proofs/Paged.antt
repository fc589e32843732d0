-- The page that all rows of a list make: those from its place on, at most so many, and how many there are.
use Rattle.std.proofs.Common.{◌≡◌, ℕ, min, zero, suc, ◌+◌, ◌-◌, ◌≤◌, ◌<◌, Bool, true, false, List, [], ◌∷◌, ◌++◌, take, drop, length, length-append, append-nil, append_assoc, refl, sym, ap, subst, ◌∙◌, arith}
use Rattle.std.proofs.lemmas.Bool.{leb-false, leb-true, ltb-false, ltb-true}
use Rattle.std.proofs.lemmas.List.{drop_all}
use Rattle.std.specs.Prelude.{◌&&◌, nat_le, nat_lt, Result, Ok, Err, if◌then◌else◌}
use Rattle.farm_types.specs.declared.refusal.Refusal.{Refusal}
use Rattle.farm_lines.specs.declared.list_row.ListRow.{ListRow}
use Rattle.farm_lines.specs.declared.limits.TheConstants.{ROWS_EACH}
use Rattle.farm_lines.specs.declared.reply.ListReply.{ListReply}
use Rattle.farm_lines.specs.Lists.{page_of, paged}
use Rattle.cue_query.specs.declared.page.Page.{Page}
use Rattle.cue_query.specs.Pages.{new_page, offered_all, passed_by, reply_of}
use Rattle.cue_query.specs.Queries.{HasListed, IsListed, Shows}
use Rattle.farm_types.specs.declared.fault.FarmFault.{FarmFault}
use Rattle.farm_types.specs.declared.fault.FarmFault.TheVariants as fault

-- the rows with those of the others that stand on the page
abbrev filled : ℕ → ℕ → List ListRow → List ListRow → List ListRow
filled most skipped kept rows = kept ++ take (most - length kept) (drop skipped rows)

abbrev no_row : List ListRow
no_row = []

no_rows : (n k : ℕ) → take n (drop k no_row) ≡ []
no_rows zero zero = refl
no_rows zero (suc k) = refl
no_rows (suc n) zero = refl
no_rows (suc n) (suc k) = refl

-- the rows on the page after one more
abbrev after_one : Bool → List ListRow → ListRow → List ListRow
after_one stands kept row = if stands then kept ++ row ∷ [] else kept

one_more : (most from seen : ℕ) (kept : List ListRow) (row : ListRow) (rows : List ListRow) (b c : Bool) → nat_le from seen ≡ b → nat_lt (length kept) most ≡ c
    → filled most (from - (seen + 1)) (after_one (b && c) kept row) rows ≡ filled most (from - seen) kept (row ∷ rows)
one_more most from seen kept row rows true true begun room =
    let started : from ≤ seen = leb-true from seen begun in
    let fits : length kept < most = ltb-true (length kept) most room in
    let here : from - seen ≡ 0 = omega (arith, started) in
    let next : from - (seen + 1) ≡ 0 = omega (arith, started) in
    let longer : length (kept ++ row ∷ []) ≡ length kept + 1 = length-append kept (row ∷ []) in
    let left : most - length kept ≡ suc (most - length (kept ++ row ∷ [])) = omega (arith, longer, fits) in
    ap (λ k. (kept ++ row ∷ []) ++ take (most - length (kept ++ row ∷ [])) (drop k rows)) next
    ∙ append_assoc kept (row ∷ []) (take (most - length (kept ++ row ∷ [])) rows)
    ∙ sym (ap (λ k. kept ++ take (most - length kept) (drop k (row ∷ rows))) here ∙ ap (λ k. kept ++ take k (row ∷ rows)) left)
one_more most from seen kept row rows true false begun full =
    let over : most ≤ length kept = ltb-false (length kept) most full in
    let none : most - length kept ≡ 0 = omega (arith, over) in
    ap (λ k. kept ++ take k (drop (from - (seen + 1)) rows)) none ∙ sym (ap (λ k. kept ++ take k (drop (from - seen) (row ∷ rows))) none)
one_more most from seen kept row rows false c before room =
    let later : seen < from = leb-false from seen before in
    let skipped : from - seen ≡ suc (from - (seen + 1)) = omega (arith, later) in
    sym (ap (λ k. kept ++ take (most - length kept) (drop k (row ∷ rows))) skipped)

abbrev page_with : ℕ → ℕ → List ListRow → Page
page_with from seen rows = record { from = from; seen = seen; rows = rows }

-- after all rows
page_after : (from seen : ℕ) (kept rows : List ListRow) → offered_all (page_with from seen kept) rows ≡ page_with from (seen + length rows) (filled ROWS_EACH (from - seen) kept rows)
page_after from seen kept [] =
    let count : seen ≡ seen + 0 = omega arith in
    ap (λ n. page_with from n kept) count
    ∙ ap (page_with from (seen + 0)) (sym (append-nil kept) ∙ ap (λ rs. kept ++ rs) (sym (no_rows (ROWS_EACH - length kept) (from - seen))))
page_after from seen kept (row ∷ rows) =
    let begun = nat_le from seen in
    let room = nat_lt (length kept) ROWS_EACH in
    let count : seen + 1 + length rows ≡ seen + suc (length rows) = omega arith in
    page_after from (seen + 1) (after_one (begun && room) kept row) rows
    ∙ ap (λ n. page_with from n (filled ROWS_EACH (from - (seen + 1)) (after_one (begun && room) kept row) rows)) count
    ∙ ap (page_with from (seen + suc (length rows))) (one_more ROWS_EACH from seen kept row rows begun room refl refl)

-- rows that don't stand on the page are only counted
module _ (from seen : ℕ) (kept rows : List ListRow) where
  abbrev Passed : Type 0
  Passed = offered_all (page_with from seen kept) rows ≡ page_with from (seen + length rows) kept

  none_kept : take (ROWS_EACH - length kept) (drop (from - seen) rows) ≡ no_row → Passed
  none_kept none = page_after from seen kept rows ∙ ap (page_with from (seen + length rows)) (ap (λ rs. kept ++ rs) none ∙ append-nil kept)

  passed_before : length rows ≤ from - seen → Passed
  passed_before before = none_kept (ap (take (ROWS_EACH - length kept)) (drop_all (from - seen) rows before) ∙ no_rows (ROWS_EACH - length kept) 0)

  passed_full : ROWS_EACH ≤ length kept → Passed
  passed_full full =
      let none : ROWS_EACH - length kept ≡ 0 = omega (arith, full) in
      none_kept (ap (λ k. take k (drop (from - seen) rows)) none ∙ none_taken (drop (from - seen) rows))
    where
      none_taken : (rs : List ListRow) → take 0 rs ≡ no_row
      none_taken [] = refl
      none_taken (r ∷ rs) = refl

-- so many were passed
pub all_passed : (page : Page) (left n : ℕ) (rows : List ListRow) → n ≡ passed_by page left → length rows ≡ n → page_with page.from (page.seen + n) page.rows ≡ offered_all page rows
all_passed page left n rows passed count = by (nat_lt (length page.rows) ROWS_EACH) refl passed
  where
    at_end : offered_all page rows ≡ page_with page.from (page.seen + length rows) page.rows → page_with page.from (page.seen + n) page.rows ≡ offered_all page rows
    at_end is = ap (λ k. page_with page.from (page.seen + k) page.rows) (sym count) ∙ sym is

    by : (b : Bool) → nat_lt (length page.rows) ROWS_EACH ≡ b → n ≡ (if b then min (page.from - page.seen) left else left) → page_with page.from (page.seen + n) page.rows ≡ offered_all page rows
    by true room few = at_end (passed_before page.from page.seen page.rows rows (omega (arith, few, count)))
    by false full most = at_end (passed_full page.from page.seen page.rows rows (ltb-false (length page.rows) ROWS_EACH full))

abbrev reply_with : List ListRow → ℕ → ListReply
reply_with rows total = record { rows = rows; total = total }

-- a new page on which all rows were listed is the page of the list
pub all_paged : (from : ℕ) (rows : List ListRow) → reply_of (offered_all (new_page from) rows) ≡ page_of from rows
all_paged from rows =
    let same : from - 0 ≡ from = omega arith in
    let count : 0 + length rows ≡ length rows = omega arith in
    ap reply_of (page_after from 0 [] rows)
    ∙ ap (λ k. reply_with (take ROWS_EACH (drop k rows)) (0 + length rows)) same
    ∙ ap (reply_with (take ROWS_EACH (drop from rows))) count

-- a list that was listed on a new page is shown as that page
pub listed_paged : (from : ℕ) (listed : Result (List ListRow) Refusal) (first page : Page) → first ≡ new_page from → HasListed listed first page → paged from listed ≡ Ok (reply_of page)
listed_paged from (Ok rows) first page new has =
    ap (λ (r : ListReply). Ok r) (sym (ap reply_of has ∙ ap (λ (p : Page). reply_of (offered_all p rows)) new ∙ all_paged from rows))
listed_paged from (Err why) first page new has = absurd has

-- a list that was refused as it was listed is shown as refused
pub refusal_paged : (from : ℕ) (listed : Result (List ListRow) Refusal) (old new : Page) (shown : Result ListReply FarmFault) (e : FarmFault)
    → IsListed listed old (Err e) new → shown ≡ Err e → Shows (paged from listed) shown
refusal_paged from listed old new shown e refused same = subst (Shows (paged from listed)) (sym same) (shown_by e refused)
  where
    shown_by : (e : FarmFault) → IsListed listed old (Err e) new → Shows (paged from listed) (Err e)
    shown_by (fault.Refused why) is = ap (paged from) is
    shown_by fault.NoMemory is = is
