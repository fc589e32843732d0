-- Rows listed on a page in turn: how many were listed, and that those that are left complete it.
use Rattle.std.proofs.Common.{◌≡◌, ℕ, zero, suc, ◌+◌, ◌≤◌, List, [], ◌∷◌, ◌++◌, length, map, drop, Option, None, Some, refl, sym, ap, subst, ◌∙◌, arith}
use Rattle.std.specs.Prelude.{filter_map}
use Rattle.std.specs.List.{slice_get}
use Rattle.std.proofs.lemmas.List.{drop_more}
use Rattle.std.proofs.lemmas.List.Sums.{fold-append}
use Rattle.std.proofs.lemmas.Option.{get_or_from_slice_get, none-some, slice_get_within}
use Rattle.farm_lines.specs.declared.list_row.ListRow.{ListRow}
use Rattle.cue_query.specs.declared.page.Page.{Page}
use Rattle.cue_query.specs.Pages.{offered, offered_all}

-- so many rows were listed since the first page, and with those that are left it comes to all
pub record IsListedTo (first page : Page) (count : ℕ) (left all : List ListRow) : Type 0 where
  pub count_is : page.seen ≡ count
  pub all_is : offered_all page left ≡ offered_all first all

-- one more is listed
pub one_listed : (first page new : Page) (n : ℕ) (row : ListRow) (left all : List ListRow) → IsListedTo first page n (row ∷ left) all → new ≡ offered page row → IsListedTo first new (n + 1) left all
one_listed first page new n row left all listed is =
    record {
      count_is = ap (λ (p : Page). p.seen) is ∙ ap (λ (k : ℕ). k + 1) listed.count_is;
      all_is = ap (λ (p : Page). offered_all p left) is ∙ listed.all_is;
    }

-- ---- the rows of a list from a place on

pub there : {X : Type 0} (xs : List X) (n : ℕ) (x : X) → slice_get xs n ≡ Some x → drop n xs ≡ x ∷ drop (n + 1) xs
there xs n x at = drop_more xs n x (slice_get_within xs n x at) ∙ ap (λ y. y ∷ drop (n + 1) xs) (get_or_from_slice_get xs n x x at)

past : {X : Type 0} (xs : List X) (n : ℕ) → slice_get xs n ≡ None → drop n xs ≡ []
past [] zero e = refl
past [] (suc n) e = refl
past (y ∷ xs) zero e = absurd (none-some y (sym e))
past (y ∷ xs) (suc n) e = past xs n e

-- a row for each item
pub item_listed : {X : Type 0} (f : X → ListRow) (xs : List X) (first page new : Page) (n : ℕ) (x : X) (all : List ListRow)
    → IsListedTo first page n (map f (drop n xs)) all → slice_get xs n ≡ Some x → new ≡ offered page (f x) → IsListedTo first new (n + 1) (map f (drop (n + 1) xs)) all
item_listed f xs first page new n x all listed at is =
    one_listed first page new n (f x) (map f (drop (n + 1) xs)) all (subst (λ ys. IsListedTo first page n (map f ys) all) (there xs n x at) listed) is

pub items_listed : {X : Type 0} (f : X → ListRow) (xs : List X) (first page : Page) (n : ℕ) (all : List ListRow)
    → IsListedTo first page n (map f (drop n xs)) all → slice_get xs n ≡ None → page ≡ offered_all first all
items_listed f xs first page n all listed at = sym (ap (λ ys. offered_all page (map f ys)) (past xs n at)) ∙ listed.all_is

-- ---- some rows, or none, for each item

-- at most so many rows were listed since the first page, and with those that are left it comes to all
pub record IsListedPart (first page : Page) (most : ℕ) (left all : List ListRow) : Type 0 where
  pub count_within : page.seen ≤ most
  pub all_is : offered_all page left ≡ offered_all first all

pub no_part : (page : Page) (left all : List ListRow) → page.seen ≡ 0 → left ≡ all → IsListedPart page page 0 left all
no_part page left all none is = record { count_within = omega arith; all_is = ap (offered_all page) is }

pub seen_after : (page : Page) (rows : List ListRow) → (offered_all page rows).seen ≡ page.seen + length rows
seen_after page [] = omega arith
seen_after page (row ∷ rows) = let later = seen_after (offered page row) rows in omega (arith, later)

-- these are listed next
pub part_listed : (first page new : Page) (most n : ℕ) (rows left all : List ListRow) → IsListedPart first page most (rows ++ left) all → new ≡ offered_all page rows → most + length rows ≤ n → IsListedPart first new n left all
part_listed first page new most n rows left all listed is within =
    let count : new.seen ≡ page.seen + length rows = ap (λ (p : Page). p.seen) is ∙ seen_after page rows in
    record {
      count_within = omega (arith, count, listed.count_within, within);
      all_is = ap (λ (p : Page). offered_all p left) is ∙ sym (fold-append offered page rows left) ∙ listed.all_is;
    }

-- what is kept of a list is no longer
pub kept_within : {X Y : Type 0} (h : X → Option Y) (xs : List X) → length (filter_map h xs) ≤ length xs
kept_within h [] = omega arith
kept_within {Y = Y} h (x ∷ xs) = by (h x) refl (kept_within h xs)
  where
    by : (o : Option Y) → h x ≡ o → length (filter_map h xs) ≤ length xs → length (filter_map h (x ∷ xs)) ≤ length (x ∷ xs)
    by None is rest = rw is (omega (arith, rest))
    by (Some y) is rest = rw is (omega (arith, rest))
