-- Which job leaves, by the place of the first that is still there.
use Rattle.std.proofs.Common.{◌≡◌, ℕ, zero, suc, ◌-◌, ◌≤◌, ◌<◌, Bool, cond, List, [], ◌∷◌, ◌++◌, length, None, ap, ◌∙◌, arith}
use Rattle.std.specs.List.{slice_get}
use Rattle.std.proofs.lemmas.Bool.{le-ltb, lt-ltb}
use Rattle.farm_types.specs.declared.limits.TheConstants.{MOST_FINISHED}
use Rattle.farm_finish.specs.Gone.{leaving}

pub slice_get-behind : (xs ys : List ℕ) (i : ℕ) → length xs ≤ i → slice_get (xs ++ ys) i ≡ slice_get ys (i - length xs)
slice_get-behind [] ys i behind = let same : i ≡ i - 0 = omega arith in ap (slice_get ys) same
slice_get-behind (x ∷ xs) ys zero behind = absurd (omega (arith, behind))
slice_get-behind (x ∷ xs) ys (suc i) behind = let same : i - length xs ≡ suc i - length (x ∷ xs) = omega arith in slice_get-behind xs ys i (omega (arith, behind)) ∙ ap (slice_get ys) same

module _ (finished jobs : List ℕ) (count : ℕ) where
  pub none_leaves : count ≤ MOST_FINISHED → leaving finished jobs count ≡ None
  none_leaves few = ap (λ (b : Bool). cond b (slice_get (finished ++ jobs) (count - MOST_FINISHED - 1)) None) (le-ltb MOST_FINISHED count few)

  pub leaves_at : MOST_FINISHED < count → leaving finished jobs count ≡ slice_get (finished ++ jobs) (count - MOST_FINISHED - 1)
  leaves_at many = ap (λ (b : Bool). cond b (slice_get (finished ++ jobs) (count - MOST_FINISHED - 1)) None) (lt-ltb MOST_FINISHED count many)
