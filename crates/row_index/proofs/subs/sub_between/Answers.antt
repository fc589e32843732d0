use Rattle.std.proofs.Common.{arith}
use Rattle.row_index.proofs.subs.sub_between.Goals as goal

pub unreachable-requires : goal.unreachable-requires
unreachable-requires c = absurd (omega (arith, c.in-None.ensures.none, c.requires.below))
