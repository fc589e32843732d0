-- The farms and their lists compute.
use Rattle.std.proofs.Common.{refl}
use Rattle.farm_lines.specs.ListLines.{query_at}
use Rattle.worked_examples.proofs.listing.lists_are_read.Goals as goal

pub returns-clause-frames : goal.returns-clause-frames
unfolding query_at
returns-clause-frames c = refl

pub returns-clause-procs : goal.returns-clause-procs
unfolding query_at
returns-clause-procs c = refl
