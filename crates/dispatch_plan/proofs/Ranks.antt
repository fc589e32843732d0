-- Ranks that are put in order, and the first of them.
use Rattle.std.proofs.Common.{◌≡◌, ℕ, ◌+◌, Bool, true, false, cond, List, [], ◌∷◌, ◌++◌, take, drop, refl, ap}
use Rattle.std.proofs.Math.Numerals.{one-add}
use Rattle.std.specs.List.{prefix_len, insert}
use Rattle.std.specs.Ordering.{is_gt}
use Rattle.farm_types.specs.declared.dispatch.Rank.{Rank}
use Rattle.farm_types.specs.Farm.{Farm}
use Rattle.farm_types.specs.Dispatch.{rank_cmp, insert_rank}

module _ (f : Farm) (x : Rank) where
  -- whether it is greater than a rank
  abbrev pub is_above : Rank → Bool
  is_above y = is_gt (rank_cmp f x y)

  insert_step : (b : Bool) (n : ℕ) (y : Rank) (ys : List Rank) → insert_rank f x ys ≡ take n ys ++ x ∷ drop n ys → cond b (y ∷ insert_rank f x ys) (x ∷ y ∷ ys) ≡ take (cond b (1 + n) 0) (y ∷ ys) ++ x ∷ drop (cond b (1 + n) 0) (y ∷ ys)
  insert_step true n y ys e = rw one-add (ap (λ zs. y ∷ zs) e)
  insert_step false n y ys e = refl

  -- a rank is put after those at the front that it is greater than
  pub insert_is : (ys : List Rank) → insert_rank f x ys ≡ insert ys (prefix_len is_above ys) x
  insert_is [] = refl
  insert_is (y ∷ ys) = insert_step (is_above y) (prefix_len is_above ys) y ys (insert_is ys)
