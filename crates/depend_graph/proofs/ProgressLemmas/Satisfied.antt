-- Which depends became satisfied, when one of them changes.
use Rattle.std.proofs.Common.{◌≡◌, ℕ, zero, suc, Bool, true, false, not, cond, eqb, List, [], ◌∷◌, ◌++◌, Some, refl, sym, ap, ◌∙◌}
use Rattle.std.specs.Prelude.{◌&&◌, ◌||◌}
use Rattle.std.specs.List.{slice_get, list_any}
use Rattle.std.proofs.lemmas.Bool.{false≢true}
use Rattle.std.proofs.lemmas.Option.{none-some, same_Some}
use Rattle.farm_types.specs.Farm.{changed_at}
use Rattle.farm_types.proofs.ChangedLists.{changed_at_suc}
use Rattle.depend_edges.specs.Listed.{ListedLists}
use Rattle.depend_graph.specs.Graph.{became_satisfied, is_satisfied, was_satisfied}
use Rattle.depend_graph.specs.Inside.{watches}
use Rattle.depend_graph.specs.Watches.{watch_by}

-- the first of two ors, where the second is behind
pub or_later : (b r x : Bool) → cond b true (r || x) ≡ (cond b true r || x)
or_later true r x = refl
or_later false r x = refl

or_first : (a was_old was_new now r : Bool) → was_old ≡ false → was_new ≡ false → cond (a && (not was_old && now)) true r ≡ (cond (a && (not was_old && was_new)) true r || (a && now))
or_first true true was_new now r no_old no_new = absurd (false≢true (sym no_old))
or_first true false true now r no_old no_new = absurd (false≢true (sym no_new))
or_first true false false true true no_old no_new = refl
or_first true false false true false no_old no_new = refl
or_first true false false false true no_old no_new = refl
or_first true false false false false no_old no_new = refl
or_first false was_old was_new now true no_old no_new = refl
or_first false was_old was_new now false no_old no_new = refl

-- one that wasn't satisfied is, if the changed depend is
pub satisfied_step : (olds news : List ListedLists) (q : ℕ) (change : ListedLists → ListedLists) (old new : ListedLists) (n : ℕ) → slice_get olds q ≡ Some old → slice_get news q ≡ Some new
    → is_satisfied (watch_by old) ≡ false → is_satisfied (watch_by new) ≡ false
    → was_satisfied (watches olds) (watches (changed_at news q change)) n ≡ (was_satisfied (watches olds) (watches news) n || (eqb old.depend n && is_satisfied (watch_by (change new))))
satisfied_step [] news q change old new n at_old at no_old no_new = absurd (none-some old at_old)
satisfied_step (x ∷ xs) [] q change old new n at_old at no_old no_new = absurd (none-some new at)
satisfied_step (x ∷ xs) (y ∷ ys) zero change old new n at_old at no_old no_new =
    let same_old = same_Some x old at_old in
    let same_new = same_Some y new at in
    or_first (eqb x.depend n) (is_satisfied (watch_by x)) (is_satisfied (watch_by y)) (is_satisfied (watch_by (change y))) (was_satisfied (watches xs) (watches ys) n)
    (ap (λ (d : ListedLists). is_satisfied (watch_by d)) same_old ∙ no_old) (ap (λ (d : ListedLists). is_satisfied (watch_by d)) same_new ∙ no_new)
    ∙ (λ i. cond (became_satisfied n (watch_by x) (watch_by y)) true (was_satisfied (watches xs) (watches ys) n) || (eqb (same_old i).depend n && is_satisfied (watch_by (change (same_new i)))))
satisfied_step (x ∷ xs) (y ∷ ys) (suc q) change old new n at_old at no_old no_new =
    ap (λ (ds : List ListedLists). was_satisfied (watches (x ∷ xs)) (watches ds) n) (changed_at_suc y ys q change)
    ∙ (ap (cond (became_satisfied n (watch_by x) (watch_by y)) true) (satisfied_step xs ys q change old new n at_old at no_old no_new)
    ∙ or_later (became_satisfied n (watch_by x) (watch_by y)) (was_satisfied (watches xs) (watches ys) n) (eqb old.depend n && is_satisfied (watch_by (change new))))

-- ---- one more in a list

pub any_last : {X : Type 0} (test : X → Bool) (xs : List X) (y : X) → list_any test (xs ++ y ∷ []) ≡ (list_any test xs || test y)
any_last test [] y = last (test y) where
  last : (b : Bool) → (b || false) ≡ (false || b)
  last true = refl
  last false = refl
any_last test (x ∷ xs) y = ap (λ b. test x || b) (any_last test xs y) ∙ by_head (test x) (list_any test xs) (test y) where
  by_head : (a b c : Bool) → (a || (b || c)) ≡ ((a || b) || c)
  by_head true b c = refl
  by_head false b c = refl

pub any_where : (b : Bool) (xs : List ℕ) (x n : ℕ) → list_any (λ m. eqb m n) (cond b (xs ++ x ∷ []) xs) ≡ (list_any (λ m. eqb m n) xs || (eqb x n && b))
any_where true xs x n = any_last (λ m. eqb m n) xs x ∙ ap (λ b. list_any (λ m. eqb m n) xs || b) (with_true (eqb x n)) where
  with_true : (b : Bool) → b ≡ (b && true)
  with_true true = refl
  with_true false = refl
any_where false xs x n = without (list_any (λ m. eqb m n) xs) (eqb x n) where
  without : (a b : Bool) → a ≡ (a || (b && false))
  without true b = refl
  without false true = refl
  without false false = refl
