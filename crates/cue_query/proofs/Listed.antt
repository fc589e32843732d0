-- The rows of a list on a page by their places: those that don't stand on it are passed.
use Rattle.std.proofs.Common.{◌≡◌, ℕ, zero, suc, ◌+◌, ◌-◌, ◌<◌, ◌≤◌, get_or, List, [], ◌∷◌, ◌++◌, length, map, take, drop, Some, refl, sym, ap, ◌∙◌, arith}
use Rattle.std.specs.Prelude.{option_map}
use Rattle.std.specs.List.{slice_get}
use Rattle.std.proofs.lemmas.List.{drop_all, length-drop, length-map, length-take-le, take-append-drop}
use Rattle.std.proofs.lemmas.List.Sums.{fold-append}
use Rattle.std.proofs.lemmas.Option.{slice_get-map, slice_get_read, slice_get_within}
use Rattle.farm_lines.specs.declared.list_row.ListRow.{ListRow}
use Rattle.cue_query.specs.declared.page.Page.{Page}
use Rattle.cue_query.specs.Pages.{offered, offered_all}
use Rattle.cue_query.proofs.InTurn.{there}

drop_drop : {X : Type 0} (n k : ℕ) (xs : List X) → drop k (drop n xs) ≡ drop (n + k) xs
drop_drop zero k xs = let same : k ≡ 0 + k = omega arith in ap (λ m. drop m xs) same
drop_drop (suc n) k [] = drop_all k [] (omega arith) ∙ sym (drop_all (suc n + k) [] (omega arith))
drop_drop (suc n) k (x ∷ xs) = let more : suc (n + k) ≡ suc n + k = omega arith in drop_drop n k xs ∙ ap (λ m. drop m (x ∷ xs)) more

-- so many rows are passed
pub passed_rows : (page new : Page) (n k : ℕ) (all : List ListRow) → ((listed : List ListRow) → length listed ≡ k → new ≡ offered_all page listed) → k ≤ length all - n → offered_all new (drop (n + k) all) ≡ offered_all page (drop n all)
passed_rows page new n k all passes few =
    let next = take k (drop n all) in
    let long : length (drop n all) ≡ length all - n = length-drop n all in
    let count : length next ≡ k = length-take-le k (drop n all) (omega (arith, few, long)) in
    ap (λ (p : Page). offered_all p (drop (n + k) all)) (passes next count)
    ∙ (sym (fold-append offered page next (drop (n + k) all))
    ∙ ap (offered_all page) (ap (λ (rs : List ListRow). next ++ rs) (sym (drop_drop n k all)) ∙ take-append-drop k (drop n all)))

-- the rows before a place were listed since the first page, and with those that are left it comes to all
pub record IsAtRow (first page : Page) (place : ℕ) (all : List ListRow) : Type 0 where
  pub seen_is : page.seen ≡ first.seen + place
  pub within : place ≤ length all
  pub all_is : offered_all page (drop place all) ≡ offered_all first all

pub at_first : (page : Page) (all : List ListRow) → IsAtRow page page 0 all
at_first page all = record { seen_is = omega arith; within = omega arith; all_is = refl }

pub passed_to : (first page new : Page) (n m : ℕ) (all : List ListRow) → IsAtRow first page n all → n ≤ m → m ≤ length all → new.seen ≡ page.seen + (m - n) → offered_all new (drop m all) ≡ offered_all page (drop n all) → IsAtRow first new m all
passed_to first page new n m all listed behind within seen rows =
    record { seen_is = omega (arith, seen, behind, listed.seen_is); within = within; all_is = rows ∙ listed.all_is }

pub row_listed : (first page new : Page) (n : ℕ) (row : ListRow) (all : List ListRow) → IsAtRow first page n all → slice_get all n ≡ Some row → new ≡ offered page row → IsAtRow first new (n + 1) all
row_listed first page new n row all listed at is =
    record {
      seen_is = let one : new.seen ≡ page.seen + 1 = ap (λ (p : Page). p.seen) is in omega (arith, one, listed.seen_is);
      within = omega (arith, slice_get_within all n row at);
      all_is = ap (λ (p : Page). offered_all p (drop (n + 1) all)) is ∙ (sym (ap (offered_all page) (there all n row at)) ∙ listed.all_is);
    }

pub all_listed : (first page : Page) (n : ℕ) (all : List ListRow) → IsAtRow first page n all → length all ≤ n → page ≡ offered_all first all
all_listed first page n all listed past = sym (ap (offered_all page) (drop_all n all past)) ∙ listed.all_is

-- a row is listed, and those behind it are passed up to the next
pub next_listed : (first page mid new : Page) (n m : ℕ) (row : ListRow) (all : List ListRow) → IsAtRow first page n all → slice_get all n ≡ Some row → mid ≡ offered page row
    → n + 1 ≤ m → m ≤ length all → new.seen ≡ mid.seen + (m - (n + 1)) → offered_all new (drop m all) ≡ offered_all mid (drop (n + 1) all) → IsAtRow first new m all
next_listed first page mid new n m row all listed at is behind within seen rows = passed_to first mid new (n + 1) m all (row_listed first page mid n row all listed at is) behind within seen rows

-- ---- a row for each item

pub item_at : {X : Type 0} (f : X → ListRow) (xs : List X) (n : ℕ) (x : X) → slice_get xs n ≡ Some x → slice_get (map f xs) n ≡ Some (f x)
item_at f xs n x at = slice_get-map f xs n ∙ ap (option_map f) at

pub item_listed : {X : Type 0} (f : X → ListRow) (ys xs : List X) (count : ℕ) (first page mid new : Page) (n m : ℕ) (x : X) → ys ≡ xs → count ≡ length ys → n < count → x ≡ get_or ys n x
    → IsAtRow first page n (map f xs) → mid ≡ offered page (f x) → n + 1 ≤ m → m ≤ count → new.seen ≡ mid.seen + (m - (n + 1))
    → ((all : List ListRow) → length all ≡ count → offered_all new (drop m all) ≡ offered_all mid (drop (n + 1) all)) → IsAtRow first new m (map f xs)
item_listed f ys xs count first page mid new n m x same long before read listed is behind within seen rows =
    let at = ap (λ zs. slice_get zs n) (sym same) ∙ slice_get_read ys count n x long before read in
    let many : length (map f xs) ≡ count = length-map xs f ∙ (ap (λ zs. length zs) (sym same) ∙ sym long) in
    next_listed first page mid new n m (f x) (map f xs) listed (item_at f xs n x at) is behind (omega (arith, many, within)) seen (rows (map f xs) many)
