-- Items that are changed one after another.
use Rattle.std.specs.Prelude.{ℕ, List, [], ◌∷◌}
use Rattle.farm_types.specs.Farm.{changed_at}

-- the list with the item at each of the places changed, in turn
abbrev pub changed_each : {X : Type 0} → (X → X) → List X → List ℕ → List X
changed_each change xs [] = xs
changed_each change xs (place ∷ places) = changed_each change (changed_at xs place change) places
