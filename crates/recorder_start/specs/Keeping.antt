-- Farms with the keepers of their rows.
use Rattle.std.specs.Prelude.{◌≡◌}
use Rattle.farm_types.specs.Farm.{Farm}
use Rattle.farm_keeper.specs.Keeping.{MayRemain}
use Rattle.farm_keeper.specs.Memory.{Kept}
use Rattle.booking_recorder.specs.recorder.specs.Recording.{HasRecorded}

-- the keeper holds the farm's rows, and a stop leaves these, or those of the farm one legal entry further
abbrev pub IsKeptBy : Farm → Kept → Type 0
IsKeptBy f k = HasRecorded (λ rows. rows ≡ k.rows) (MayRemain k.rows k.refused) f
