-- The first items of a list, and the one that follows them.
use Rattle.std.proofs.Common.{◌≡◌, ◌≤◌, ◌<◌, ℕ, ◌+◌, Bool, true, false, List, [], ◌∷◌, ◌++◌, map, length, refl, ap, arith}
use Rattle.std.specs.Prelude.{bytes_eq}
use Rattle.std.specs.List.{AllByRecursion, IsDistinct, list_all, list_any}
use Rattle.std.proofs.lemmas.Bool.{not_from_false, or_from}
use Rattle.std.proofs.lemmas.List.{length-append}
use Rattle.std.proofs.lemmas.Map.Keys.{IsDistinct-head, IsDistinct-tail}
use Rattle.std.specs.Cmp.Derive.{both_true}
use Rattle.farm_types.specs.Kept.{AllDiffer}
use Rattle.farm_types.specs.Rising.{IsRising}
use Rattle.farm_types.proofs.Lists.{and_both}
use Rattle.farm_law.proofs.KeptJobsLists.{rising_within}
use Rattle.farm_rows.specs.declared.farm_row.FarmRow.{FarmRow}
use Rattle.farm_rows.specs.Recovery.{is_new}
use Rattle.farm_rows.specs.Rows.{numbered}
use Rattle.recovery_law.proofs.Stage.{AreRising}

module _ {X : Type 0} where
  -- a test of all holds of the first ones, and of the next
  pub first_pass : (test : X → Bool) (done rest : List X) (x : X) → list_all test (done ++ x ∷ rest) ≡ true → list_all test done ≡ true
  first_pass test [] rest x all = refl
  first_pass test (y ∷ ys) rest x all =
      let both = and_both (test y) (list_all test (ys ++ x ∷ rest)) all in
      both_true both.0 (first_pass test ys rest x both.1)

  pub next_passes : (test : X → Bool) (done rest : List X) (x : X) → list_all test (done ++ x ∷ rest) ≡ true → test x ≡ true
  next_passes test [] rest x all = (and_both (test x) (list_all test rest) all).0
  next_passes test (y ∷ ys) rest x all = next_passes test ys rest x (and_both (test y) (list_all test (ys ++ x ∷ rest)) all).1

  pub first_fewer : (done rest : List X) (x : X) → length done < length (done ++ x ∷ rest)
  first_fewer done rest x = omega (arith, length-append done (x ∷ rest))

  each_next : {Y : Type 0} (label : X → Y) (P : Y → Type 0) (done rest : List X) (x : X) → AllByRecursion P (map label (done ++ x ∷ rest)) → P (label x)
  each_next label P [] rest x all = all.0
  each_next label P (y ∷ ys) rest x all = each_next label P ys rest x all.1

  -- where labels differ, none of the first ones has the next one's
  pub none_alike : {Y : Type 0} (e : Y → Y → Bool) (label : X → Y) (done rest : List X) (x : X) → IsDistinct e (map label (done ++ x ∷ rest)) → list_any (λ (y : X). e (label y) (label x)) done ≡ false
  none_alike e label [] rest x differ = refl
  none_alike e label (y ∷ ys) rest x differ =
      or_from (e (label y) (label x)) (list_any (λ (z : X). e (label z) (label x)) ys)
      (each_next label (λ z. e (label y) z ≡ false) ys rest x (IsDistinct-head e (label y) (map label (ys ++ x ∷ rest)) differ))
      (none_alike e label ys rest x (IsDistinct-tail e (label y) (map label (ys ++ x ∷ rest)) differ))

  pub new_label : (label : X → List ℕ) (done rest : List X) (x : X) → AllDiffer label (done ++ x ∷ rest) → is_new label (label x) done ≡ true
  new_label label done rest x differ = not_from_false _ (none_alike bytes_eq label done rest x differ)

  -- of keys that rise
  pub rising_next : (key : X → ℕ) (low : ℕ) (done rest : List X) (x : X) (high : ℕ) → IsRising key low (done ++ x ∷ rest) high → low ≤ key x
  rising_next key low [] rest x high rise = rise.0
  rising_next key low (y ∷ ys) rest x high rise =
      let later = rising_next key (key y + 1) ys rest x high rise.1 in
      omega (arith, rise.0, later)

  pub rising_under : (key : X → ℕ) (low : ℕ) (done rest : List X) (x : X) (high : ℕ) → IsRising key low (done ++ x ∷ rest) high → key x < high
  rising_under key low [] rest x high rise =
      let within = rising_within key (key x + 1) rest high rise.1 in
      omega (arith, within)
  rising_under key low (y ∷ ys) rest x high rise = rising_under key (key y + 1) ys rest x high rise.1

  pub by_keys : (key : X → ℕ) (low place : ℕ) (xs : List X) (high : ℕ) → IsRising key low xs high → AreRising (λ (n : ℕ) (x : X). key x) low place xs
  by_keys key low place [] high rise = tt
  by_keys key low place (x ∷ xs) high rise = (rise.0, by_keys key (key x + 1) (place + 1) xs high rise.1)

  -- rows that don't tell their places
  pub numbered_map : (make : X → FarmRow) (place : ℕ) (xs : List X) → numbered (λ (n : ℕ) (x : X). make x) place xs ≡ map make xs
  numbered_map make place [] = refl
  numbered_map make place (x ∷ xs) = ap (λ (rows : List FarmRow). make x ∷ rows) (numbered_map make (place + 1) xs)
