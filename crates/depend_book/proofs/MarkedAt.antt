-- The marks of a depend, by its groups: numbers of depends differ, since they rise.
use Rattle.std.proofs.Common.{◌≡◌, ℕ, ◌+◌, ◌<◌, ◌≤◌, Bool, true, false, not, cond, eqb, ◌&&◌, ◌||◌, List, [], ◌∷◌, map, refl, sym, ap, subst, ◌∙◌, arith}
use Rattle.std.specs.List.{filter, list_any}
use Rattle.std.proofs.lemmas.Bool.{eqb-true, ne_eqb}
use Rattle.std.proofs.lemmas.List.Folds.{list_any-append}
use Rattle.farm_types.specs.declared.depend.DependRow.{DependRow}
use Rattle.farm_types.specs.Rising.{IsRising, depend_key}
use Rattle.depend_graph.specs.Graph.{Watch, Watched, groups_at, is_mark, is_met, is_satisfied}
use Rattle.depend_graph.specs.MetAt.{has_mark, is_met_at}
use Rattle.depend_book.specs.Book.{DependLists, IsBook, mark_of, marks_in, marks_of, watch_number}

or_none : (b : Bool) → (b || false) ≡ b
or_none true = refl
or_none false = refl

nil-cons : {X : Type 0} (x : X) (xs : List X) → [] ≡ x ∷ xs → ⊥
nil-cons x xs e = cc

same_head : {X : Type 0} (x y : X) (xs ys : List X) → x ∷ xs ≡ y ∷ ys → x ≡ y
same_head x y xs ys e = cc

same_tail : {X : Type 0} (x y : X) (xs ys : List X) → x ∷ xs ≡ y ∷ ys → xs ≡ ys
same_tail x y xs ys e = cc

abbrev any_at : ℕ → List Watched → Bool
any_at p gs = list_any (is_met_at p) gs

-- ---- the groups of one depend among all

abbrev marks_one : ℕ → ℕ → Watch → Bool
marks_one n p w = eqb w.depend n && has_mark p w.groups

and_none : (b : Bool) → (b && false) ≡ false
and_none true = refl
and_none false = refl

marked_groups : (d n p : ℕ) (gs : List Watched) → list_any (is_mark n p) (map (mark_of d) (filter is_met gs)) ≡ (eqb d n && any_at p gs)
marked_groups d n p [] = sym (and_none (eqb d n))
marked_groups d n p (x ∷ xs) = by x.met (marked_groups d n p xs)
  where
    by_number : (e q a : Bool) → ((e && q) || (e && a)) ≡ (e && (q || a))
    by_number true q a = refl
    by_number false q a = refl

    by : (m : Bool) → list_any (is_mark n p) (map (mark_of d) (filter is_met xs)) ≡ (eqb d n && any_at p xs)
        → list_any (is_mark n p) (map (mark_of d) (cond m (x ∷ filter is_met xs) (filter is_met xs))) ≡ (eqb d n && ((m && eqb x.group.position p) || any_at p xs))
    by true more = ap (λ (b : Bool). (eqb d n && eqb x.group.position p) || b) more ∙ by_number (eqb d n) (eqb x.group.position p) (any_at p xs)
    by false more = more

marks_any : (n p : ℕ) (ws : List Watch) → list_any (is_mark n p) (marks_of ws) ≡ list_any (marks_one n p) ws
marks_any n p [] = refl
marks_any n p (w ∷ ws) =
    list_any-append (is_mark n p) (marks_in w) (marks_of ws)
    ∙ λ i. by (is_satisfied w) i || marks_any n p ws i
  where
    by : (b : Bool) → list_any (is_mark n p) (cond b [] (map (mark_of w.depend) (filter is_met w.groups))) ≡ (eqb w.depend n && (not b && any_at p w.groups))
    by true = sym (and_none (eqb w.depend n))
    by false = marked_groups w.depend n p w.groups

-- the numbers of the graph's depends are those of rows that rise
pub record AreNumbered (low : ℕ) (ws : List Watch) : Type 0 where
  pub rows : List DependRow
  pub high : ℕ
  pub rise : IsRising depend_key low rows high
  pub numbers : map depend_key rows ≡ map watch_number ws

pub numbered_book : (b : DependLists) → IsBook b → AreNumbered 1 b.graph.depends
numbered_book b book = record { rows = b.rows; high = b.next; rise = book.rise; numbers = book.numbers }

pub numbered_head : (low : ℕ) (w : Watch) (ws : List Watch) → AreNumbered low (w ∷ ws) → (low ≤ w.depend) × AreNumbered (w.depend + 1) ws
numbered_head low w ws k = by k.rows k.rise k.numbers
  where
    by : (rows : List DependRow) → IsRising depend_key low rows k.high → map depend_key rows ≡ map watch_number (w ∷ ws) → (low ≤ w.depend) × AreNumbered (w.depend + 1) ws
    by [] rise numbers = absurd (nil-cons w.depend (map watch_number ws) numbers)
    by (d ∷ ds) rise numbers =
        let first : d.depend ≡ w.depend = same_head d.depend w.depend (map depend_key ds) (map watch_number ws) numbers in
        (omega (arith, rise.0, first), record { rows = ds; high = k.high; rise = subst (λ (m : ℕ). IsRising depend_key (m + 1) ds k.high) first rise.1; numbers = same_tail d.depend w.depend (map depend_key ds) (map watch_number ws) numbers })

-- what is said of the depend of a number, one after the other, is said of its groups
module _ (said : ℕ → Watch → Bool) (of : List Watched → Bool) (n : ℕ) (is : (w : Watch) → said n w ≡ (eqb w.depend n && of w.groups)) (nothing : of [] ≡ false) where
  pub none_below : (low : ℕ) (ws : List Watch) → AreNumbered low ws → n < low → list_any (said n) ws ≡ false
  none_below low [] k below = refl
  none_below low (w ∷ ws) k below =
      let next = numbered_head low w ws k in
      let other : eqb w.depend n ≡ false = ne_eqb w.depend n (λ e. absurd (omega (arith, next.0, e, below))) in
      (λ i. is w i || list_any (said n) ws) ∙ ((λ i. (other i && of w.groups) || list_any (said n) ws) ∙ none_below (w.depend + 1) ws next.1 (omega (arith, next.0, below)))

  pub said_at : (low : ℕ) (ws : List Watch) → AreNumbered low ws → list_any (said n) ws ≡ of (groups_at ws n)
  said_at low [] k = sym nothing
  said_at low (w ∷ ws) k = by (eqb w.depend n) refl (said_at (w.depend + 1) ws next.1)
    where
      next : (low ≤ w.depend) × AreNumbered (w.depend + 1) ws
      next = numbered_head low w ws k

      by : (b : Bool) → eqb w.depend n ≡ b → list_any (said n) ws ≡ of (groups_at ws n) → (said n w || list_any (said n) ws) ≡ of (cond (eqb w.depend n) w.groups (groups_at ws n))
      by true here more =
          let none = none_below (w.depend + 1) ws next.1 (let e : w.depend ≡ n = eqb-true w.depend n here in omega (arith, e)) in
          (λ i. is w i || none i) ∙ ((λ i. (here i && of w.groups) || false) ∙ (or_none (of w.groups) ∙ sym (ap (λ (b : Bool). of (cond b w.groups (groups_at ws n))) here)))
      by false here more =
          (λ i. is w i || list_any (said n) ws) ∙ ((λ i. (here i && of w.groups) || list_any (said n) ws) ∙ (more ∙ sym (ap (λ (b : Bool). of (cond b w.groups (groups_at ws n))) here)))

-- the marks of one depend
pub marks_at : (n p : ℕ) (ws : List Watch) → AreNumbered 1 ws → list_any (is_mark n p) (marks_of ws) ≡ has_mark p (groups_at ws n)
marks_at n p ws k = marks_any n p ws ∙ said_at (λ m w. marks_one m p w) (has_mark p) n (λ w. refl) refl 1 ws k
