-- Counts that are no more than what is counted.
use Rattle.std.proofs.Common.{◌≤◌, ℕ, Bool, true, false, cond, List, [], ◌∷◌, length, suc, arith}
use Rattle.std.specs.List.{filter}
use Rattle.std.proofs.lemmas.List.Sums.{sum_by-cons}
use Rattle.farm_types.specs.declared.limits.TheConstants.{SLOT_LIMIT}
use Rattle.farm_types.specs.declared.rows.LayerRow.{LayerRow}
use Rattle.farm_types.specs.declared.slot_row.SlotRow.{SlotRow}
use Rattle.farm_types.specs.Farm.{Farm}
use Rattle.farm_types.specs.Kept.{KeepsRows}
use Rattle.farm_types.specs.Sums.{running_among, running_in, runs_under}

pub filtered_few : {X : Type 0} (test : X → Bool) (xs : List X) → length (filter test xs) ≤ length xs
filtered_few test [] = omega arith
filtered_few test (x ∷ xs) = by (test x) (filtered_few test xs)
  where
    by : (b : Bool) → length (filter test xs) ≤ length xs → length (cond b (x ∷ filter test xs) (filter test xs)) ≤ suc (length xs)
    by true rest = omega (arith, rest)
    by false rest = omega (arith, rest)

one_at_most : (b : Bool) → cond b 1 0 ≤ 1
one_at_most true = omega arith
one_at_most false = omega arith

running_few : (layers : List LayerRow) (limit : ℕ) (slots : List SlotRow) → running_among layers limit slots ≤ length slots
running_few layers limit [] = omega arith
running_few layers limit (s ∷ ss) =
    omega (arith, sum_by-cons (λ (t : SlotRow). cond (runs_under layers limit t) 1 0) s ss, one_at_most (runs_under layers limit s), running_few layers limit ss)

-- no more frames run in a limit than there are slots
pub running_within : (f : Farm) → KeepsRows f → (limit : ℕ) → running_in f limit ≤ SLOT_LIMIT
running_within f kept limit = omega (arith, running_few f.layers limit f.slots, kept.jobs.slot_count)
