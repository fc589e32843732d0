-- Shapes by what is known of layers.
use Rattle.std.proofs.Common.{◌≡◌, ℕ, ℤ, ◌+◌, List, [], ◌∷◌, map, refl, ap}
use Rattle.farm_types.specs.declared.rows.LayerRow.{LayerRow}
use Rattle.farm_types.specs.declared.slot_row.SlotRow.{SlotRow}
use Rattle.farm_types.specs.Farm.{is_placed, slot_from}
use Rattle.farm_types.specs.Ranges.{range_numbers}
use Rattle.farm_rows.specs.Recovery.{layer_so_far, slot_or, slots_so_far}
use Rattle.stored_rows.specs.Known.{found_from, layer_known}
use Rattle.stored_rows.specs.SoFar.{shapes_with}

slots_known : (none : ℕ) (slots : List SlotRow) (l : LayerRow) (position : ℕ) (ns : List ℤ) → map (slot_or none) (found_from slots l position ns) ≡ slots_so_far none slots l position ns
slots_known none slots l position [] = refl
slots_known none slots l position (n ∷ ns) =
    ap (λ (rest : List ℕ). slot_or none (slot_from 0 (is_placed l.job l.place position) slots) ∷ rest) (slots_known none slots l (position + 1) ns)

pub shapes_known : (none : ℕ) (slots : List SlotRow) (ls : List LayerRow) → shapes_with none ls (map (layer_known slots) ls) ≡ map (layer_so_far none slots) ls
shapes_known none slots [] = refl
shapes_known none slots (l ∷ ls) =
    let first = slots_known none slots l 0 (range_numbers l.range) in
    let rest = shapes_known none slots ls in
    λ i. record { name = l.name; numbers = range_numbers l.range; slots = first i } ∷ rest i
