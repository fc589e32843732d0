use Rattle.std.proofs.Common.{◌≡◌, take}
use Rattle.std.specs.Prelude.{filter_map, slice_get}
use Rattle.cue_query.specs.Counts.{counts_among}
use Rattle.cue_query.proofs.layers.counts_of.Given as goal

-- the frames in the slots so far
abbrev pub invariant-loop-slot : goal.invariant-loop-slot
invariant-loop-slot l = l.counts ≡ counts_among (filter_map (slice_get l.farm.slots) (take l.slot-index l.slot-items))
