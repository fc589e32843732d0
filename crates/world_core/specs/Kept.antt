-- What the type of worlds says of each of them.
use Rattle.world_law.specs.KeptWorld.{IsKeptWorld}
use Rattle.world_law.specs.World.{World}

-- it keeps what every world keeps
unfoldable pub Keeps : World → Type 0
Keeps w = IsKeptWorld w
