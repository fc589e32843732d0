-- Slots among others.
use Rattle.std.specs.Prelude.{ℕ, ◌==◌, Bool, List}
use Rattle.std.specs.List.{list_any}

abbrev pub is_among : List ℕ → ℕ → Bool
is_among slots slot = list_any (λ t. t == slot) slots
