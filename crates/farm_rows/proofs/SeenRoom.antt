-- Where there is room for some keys, there is for one.
use Rattle.std.proofs.Common.{arith, ℕ, ◌≤◌}
use Rattle.farm_rows.specs.Seen.{HasRoom}
use Rattle.farm_rows.specs.declared.seen_keys.SeenKeys.{SeenKeys}
use Rattle.farm_rows.specs.declared.seen_keys.SeenKeys.TheVariants as seen_keys

pub room_for_one : (seen : SeenKeys) (n : ℕ) → 1 ≤ n → HasRoom seen n → HasRoom seen 1
room_for_one (seen_keys.Few few) n some room = omega (arith, some, room)
room_for_one (seen_keys.Many many) n some room = tt
