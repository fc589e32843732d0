-- One slot more, with those before it that were never used: how many there are, and what they weigh.
use Rattle.std.proofs.Common.{◌≡◌, ◌≤◌, ℕ, ◌+◌, ◌-◌, ◌*◌, List, [], ◌∷◌, ◌++◌, length, ap, ◌∙◌, arith}
use Rattle.std.specs.Prelude.{replicate}
use Rattle.std.specs.List.{sum_by}
use Rattle.std.proofs.lemmas.List.{length-append, length-replicate}
use Rattle.std.proofs.lemmas.List.Folds.{sum_by-replicate}
use Rattle.std.proofs.lemmas.List.Sums.{sum_by-append, sum_by-cons}
use Rattle.farm_types.specs.declared.slot_row.SlotRow.{SlotRow}
use Rattle.farm_rows.specs.Recovery.{unused_slot, with_slot}

pub slots_long : (slots : List SlotRow) (slot : ℕ) (s : SlotRow) → length slots ≤ slot → length (with_slot slots slot s) ≡ slot + 1
slots_long slots slot s past =
    let n = slot - length slots in
    let gap = replicate n unused_slot in
    omega (arith, length-append slots (gap ++ s ∷ []), length-append gap (s ∷ []), length-replicate {A = SlotRow} n unused_slot, past)

-- a sum grows by what the new one weighs
pub sum_with : (weight : SlotRow → ℕ) (slots : List SlotRow) (slot : ℕ) (s : SlotRow) → weight unused_slot ≡ 0 → sum_by weight (with_slot slots slot s) ≡ sum_by weight slots + weight s
sum_with weight slots slot s none =
    let n = slot - length slots in
    let gap = replicate n unused_slot in
    let zeros : sum_by weight gap ≡ 0 = sum_by-replicate weight n unused_slot ∙ ap (λ (w : ℕ). n * w) none ∙ omega arith in
    omega (arith, sum_by-append weight slots (gap ++ s ∷ []), sum_by-append weight gap (s ∷ []), sum_by-cons weight s [], zeros)
