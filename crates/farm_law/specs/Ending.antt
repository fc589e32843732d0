-- Jobs that may finish.
use Rattle.std.specs.Prelude.{ℕ, ◌≡◌, true, false}
use Rattle.std.specs.List.{list_any}
use Rattle.farm_types.specs.Farm.{Farm}
use Rattle.farm_types.specs.Kept.{is_of_pending}
use Rattle.farm_types.specs.Operators.{is_left_of}

-- the job is pending, and no frame of it is left
abbrev pub Ends : Farm → ℕ → Type 0
Ends f job = (is_of_pending f.jobs job ≡ true) × (list_any (is_left_of job) f.slots ≡ false)
