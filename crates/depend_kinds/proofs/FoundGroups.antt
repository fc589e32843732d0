-- Frames that are found by a lookup that finds the target layer's.
use Rattle.std.proofs.Common.{◌≡◌, ℕ, ℤ, ◌+◌, Bool, List, [], ◌∷◌, refl, ap, ◌∙◌}
use Rattle.farm_types.specs.declared.depend.LayerShape.{LayerShape}
use Rattle.farm_types.specs.Groups.{groups_by_number, slot_numbered}
use Rattle.depend_kinds.specs.Found.{groups_found}

pub found_by_number : (look : ℤ → List ℕ) (target : LayerShape) → ((number : ℤ) → look number ≡ slot_numbered number target.numbers target.slots)
    → (position : ℕ) (any : Bool) (ns : List ℤ) (ss : List ℕ) → groups_found look position any ns ss ≡ groups_by_number position any ns ss target
found_by_number look target finds position any [] ss = refl
found_by_number look target finds position any (n ∷ ns) [] = refl
found_by_number look target finds position any (n ∷ ns) (s ∷ ss) = rw (finds n, found_by_number look target finds (position + 1) any ns ss) refl

-- the same, where each list is known to be the layer's
pub found_in_layers : (look : ℤ → List ℕ) (target : LayerShape) (numbers : List ℤ) (slots : List ℕ) → numbers ≡ target.numbers → slots ≡ target.slots
    → ((number : ℤ) → look number ≡ slot_numbered number numbers slots)
    → (any : Bool) (ns ms : List ℤ) (ss ts : List ℕ) → ns ≡ ms → ss ≡ ts → groups_found look 0 any ns ss ≡ groups_by_number 0 any ms ts target
found_in_layers look target numbers slots same_numbers same_slots finds any ns ms ss ts same_ns same_ss =
    rw (same_ns, same_ss)
    (found_by_number look target (λ number. finds number ∙ ap (λ (xs : List ℤ). slot_numbered number xs slots) same_numbers ∙ ap (slot_numbered number target.numbers) same_slots) 0 any ms ts)
