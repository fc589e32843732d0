-- The frames so far and those of the layers that are left are all frames, and their sum fits its type.
use Rattle.std.proofs.Common.{◌≡◌, ◌≤◌, ◌+◌, ◌*◌, ◌^◌, drop}
use Rattle.farm_types.specs.Jobs.{frames_in}
use Rattle.farm_types.proofs.job.frames_of.Given as goal

abbrev pub invariant-loop-layer : goal.invariant-loop-layer
invariant-loop-layer l =
    record { counted : l.frames + frames_in (drop l.layer-index l.layers) ≡ frames_in l.layers; small : l.frames ≤ (2 ^ 64) * l.layer-index }
