-- The shape of a job of which frames may still lack slots, by what is known of its layers.
use Rattle.std.specs.Prelude.{ℕ, ◌≡◌, true, List, [], ◌∷◌, map}
use Rattle.std.specs.List.{list_all}
use Rattle.farm_types.specs.declared.depend.LayerShape.{LayerShape}
use Rattle.farm_types.specs.declared.rows.LayerRow.{LayerRow}
use Rattle.farm_types.specs.Farm.{Farm}
use Rattle.farm_rows.specs.Recovery.{slot_or}
use Rattle.row_index.specs.Index.{LayerKnown}
use Rattle.stored_rows.specs.Known.{has_few_numbers}

-- a layer with its numbers and their slots, and that number for each that has none
abbrev pub shape_with : ℕ → LayerRow → LayerKnown → LayerShape
shape_with none l k = record { name = l.name; numbers = k.numbers; slots = map (slot_or none) k.slots }

abbrev pub shapes_with : ℕ → List LayerRow → List LayerKnown → List LayerShape
shapes_with none [] ks = []
shapes_with none (l ∷ ls) [] = []
shapes_with none (l ∷ ls) (k ∷ ks) = shape_with none l k ∷ shapes_with none ls ks

-- no layer has more numbers than a job may have frames
abbrev pub HasFewNumbers : Farm → Type 0
HasFewNumbers f = list_all has_few_numbers f.layers ≡ true
