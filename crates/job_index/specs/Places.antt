-- Where the frames of a layer stand, and which of them wait.
use Rattle.std.specs.Prelude.{ℕ, Bool, List, Option, option_and_then, slice_get, slice_set}
use Rattle.place_set.specs.Places.{first_from}

-- a layer's slots in range order, and for each of them whether its frame waits
pub record LayerPlaces : Type 0 where
  pub slots : List ℕ
  pub waiting : List Bool

-- with the slot of the frame at a position, and whether that frame waits
abbrev pub with_slot : ℕ → ℕ → Bool → LayerPlaces → LayerPlaces
with_slot position slot waits x = record { slots = slice_set x.slots position slot; waiting = slice_set x.waiting position waits }

-- with the mark at a position set
abbrev pub marked : ℕ → Bool → LayerPlaces → LayerPlaces
marked position waits x = record x { waiting = slice_set x.waiting position waits }

-- the slot of the first marked position at one or after it
abbrev pub first_marked : ℕ → LayerPlaces → Option ℕ
first_marked from x = option_and_then (slice_get x.slots) (first_from x.waiting from)
