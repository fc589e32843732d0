-- The turn of one change before the turns of others.
use Rattle.std.proofs.Common.{◌≡◌, ◌++◌, List, [], Option, Some, None, refl}
use Rattle.farm_stands.specs.declared.turn.Turn.{Turn}
use Rattle.farm_stands.specs.Turns.{with_turn}

pub with_more : (o : Option Turn) (ts : List Turn) → with_turn o [] ++ ts ≡ with_turn o ts
with_more None ts = refl
with_more (Some t) ts = refl
