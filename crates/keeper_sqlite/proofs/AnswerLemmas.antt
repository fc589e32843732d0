-- Which rows a query answers.
use Rattle.std.proofs.Common.{◌≡◌, inl, inr, zero, suc, List, [], ◌∷◌, ◌++◌, map, Bool, true, false, cond, refl, sym, ap, subst, ◌∙◌, arith}
use Rattle.std.specs.List.{All, flat_map}
use Rattle.std.specs.List.Sorted.{IsPermutation}
use Rattle.std.proofs.lemmas.List.Sorted.{All-permutation, IsPermutation-sym}
use Rattle.sqlite_value.specs.Order.{Row}
use Rattle.sqlite_sql.specs.Term.{Env, eval_all}
use Rattle.sqlite_sql.specs.Query.{Query, Output, output}
use Rattle.sqlite_rules.specs.Lists.{Has}
use Rattle.sqlite_rules.proofs.ProbeLemmas.{mapped_has}
use Rattle.keeper_sqlite.proofs.LeftLemmas.{unmapped}

all_of : {X : Type 0} (xs : List X) → All (Has xs) xs
all_of [] k d low = absurd (omega (arith, low))
all_of (x ∷ xs) zero d low = inl refl
all_of (x ∷ xs) (suc k) d low = inr (all_of xs k d (omega (arith, low)))

pub from_all : {X : Type 0} (P : X → Type 0) (ys : List X) (y : X) → All P ys → Has ys y → P y
from_all P [] y all h = absurd h
from_all P (z ∷ ys) y all (inl same) = subst P (sym same) (all 0 z (omega arith))
from_all P (z ∷ ys) y all (inr later) = from_all P ys y (λ k d low. all (suc k) d (omega (arith, low))) later

pub moved_has : {X : Type 0} (xs ys : List X) (x : X) → IsPermutation xs ys → Has xs x → Has ys x
moved_has xs ys x same h = from_all (Has ys) xs x (All-permutation (Has ys) ys xs (IsPermutation-sym xs ys same) (all_of ys)) h

module _ (p : Row → Bool) (env : Row → Env) where
  abbrev pub passing : List Row → List Env
  passing = flat_map (λ r. cond (p r) (env r ∷ []) [])

  abbrev Passed : List Row → Env → Type 0
  Passed rows e = (r : Row) × Has rows r × (p r ≡ true) × (e ≡ env r)

  pub passing_has : (rows : List Row) (e : Env) → Has (passing rows) e → Passed rows e
  passing_has [] e h = absurd h
  passing_has (r ∷ rows) e h = go (p r) refl h (passing_has rows e)
    where
      go : (b : Bool) → p r ≡ b → Has (cond b (env r ∷ []) [] ++ passing rows) e → (Has (passing rows) e → Passed rows e) → Passed (r ∷ rows) e
      go true is (inl same) more = (r, inl refl, is, same)
      go true is (inr later) more = let x = more later in (x.0, inr x.1, x.2, x.3)
      go false is later more = let x = more later in (x.0, inr x.1, x.2, x.3)

  pub passing_from : (rows : List Row) (r : Row) → Has rows r → p r ≡ true → Has (passing rows) (env r)
  passing_from [] r h is = absurd h
  passing_from (x ∷ rows) r (inl same) is =
      subst (λ b. Has (cond b (env x ∷ []) [] ++ passing rows) (env r)) (sym is ∙ ap p same) (inl (ap env same))
  passing_from (x ∷ rows) r (inr later) is = go (p x) (passing_from rows r later is)
    where
      go : (b : Bool) → Has (passing rows) (env r) → Has (cond b (env x ∷ []) [] ++ passing rows) (env r)
      go true more = inr more
      go false more = more

module _ (q : Query) (staged : List Env) (kept ordered : List Output) (rows : List Row) (distinct : kept ≡ map (output q) staged) (same : IsPermutation kept ordered)
    (shown : rows ≡ map (λ (o : Output). o.1) ordered) where
  pub answer_has : (x : Row) → Has rows x → (e : Env) × Has staged e × (x ≡ eval_all q.project e)
  answer_has x h =
      let o = unmapped (λ (o : Output). o.1) ordered x (subst (λ l. Has l x) shown h) in
      let was = moved_has ordered kept o.0 (IsPermutation-sym kept ordered same) o.1 in
      let e = unmapped (output q) staged o.0 (subst (λ l. Has l o.0) distinct was) in
      (e.0, e.1, o.2 ∙ ap (λ (o : Output). o.1) e.2)

  pub answer_from : (e : Env) → Has staged e → Has rows (eval_all q.project e)
  answer_from e h =
      let there = subst (λ l. Has l (output q e)) (sym distinct) (mapped_has (output q) staged e h) in
      subst (λ l. Has l (eval_all q.project e)) (sym shown) (mapped_has (λ (o : Output). o.1) ordered (output q e) (moved_has kept ordered (output q e) same there))
