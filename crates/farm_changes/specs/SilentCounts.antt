-- Silent hosts one by one.
use Rattle.std.specs.Prelude.{ℕ, ◌==◌, ◌&&◌, Bool}
use Rattle.farm_types.specs.Farm.{Farm}
use Rattle.farm_types.specs.Step.{is_silent}

-- the number is that host's, and the host is silent at the moment
abbrev pub is_silent_one : Farm → ℕ → ℕ → ℕ → Bool
is_silent_one f moment host n = n == host && is_silent f moment n
