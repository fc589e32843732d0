use Rattle.std.proofs.Common.{take}
use Rattle.job_book.specs.Names.{KeepsNames}
use Rattle.job_book.proofs.restoring.keys.names_of.Given as goal

abbrev pub invariant-loop-row : goal.invariant-loop-row
invariant-loop-row l = KeepsNames l.names.pairs (take l.row-index l.rows)
