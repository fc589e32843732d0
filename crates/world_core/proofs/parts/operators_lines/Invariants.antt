use Rattle.std.proofs.Common.{◌≡◌, map, take}
use Rattle.world_law.specs.World.{operators_line}
use Rattle.world_core.proofs.parts.operators_lines.Given as goal

abbrev pub invariant-loop-request : goal.invariant-loop-request
invariant-loop-request l = l.lines ≡ map operators_line (take l.request-index l.requests)
