-- Items of lists.
use Rattle.std.specs.Prelude.{ℕ, ◌≡◌, List, Some, slice_get}

-- the item stands somewhere in the list
abbrev pub Has : {X : Type 0} → List X → X → Type 0
Has xs x = (place : ℕ) × (slice_get xs place ≡ Some x)
