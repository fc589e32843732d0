use Rattle.std.proofs.Common.{take}
use Rattle.std.specs.List.{AllByRecursion}
use Rattle.world_law.specs.Texts.{IsConfigWithin}
use Rattle.world_core.proofs.of_types.are_of_types.Given as goal

abbrev pub invariant-loop-config : goal.invariant-loop-config
invariant-loop-config l = AllByRecursion IsConfigWithin (take l.config-index l.configs)
