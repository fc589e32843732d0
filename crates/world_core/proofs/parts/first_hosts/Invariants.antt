use Rattle.std.proofs.Common.{◌≡◌, map, take}
use Rattle.world_law.specs.World.{new_host}
use Rattle.world_core.proofs.parts.first_hosts.Given as goal

abbrev pub invariant-loop-config : goal.invariant-loop-config
invariant-loop-config l = l.hosts.items ≡ map new_host (take l.config-index l.configs)
