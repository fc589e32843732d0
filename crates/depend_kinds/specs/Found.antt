-- What a lookup found, and the groups of frames by a lookup of their targets.
use Rattle.std.specs.Prelude.{ℕ, ℤ, ◌+◌, Bool, List, [], ◌∷◌, ◌++◌, Option, None, Some}
use Rattle.farm_types.specs.declared.depend.Group.{Group}
use Rattle.farm_types.specs.Groups.{group_of}

-- the slot that was found, in a list of one, or the later ones
abbrev pub found_or : Option ℕ → List ℕ → List ℕ
found_or None later = later
found_or (Some slot) later = slot ∷ []

-- each frame of the numbers, counted from a position, waits for what a lookup finds by its number
abbrev pub groups_found : (ℤ → List ℕ) → ℕ → Bool → List ℤ → List ℕ → List Group
groups_found look position any [] slots = []
groups_found look position any (n ∷ ns) [] = []
groups_found look position any (n ∷ ns) (s ∷ ss) = group_of position any s (look n) ++ groups_found look (position + 1) any ns ss
