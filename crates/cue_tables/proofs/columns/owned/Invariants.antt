-- The texts made and those of the cells that are left are the head's.
use Rattle.std.proofs.Common.{◌≡◌, ◌++◌, drop, map}
use Rattle.cue_tables.proofs.columns.owned.Given as goal

abbrev pub invariant-loop-cell : goal.invariant-loop-cell
invariant-loop-cell l = l.cells ++ map (λ cell. cell.now) (drop l.cell-index l.head) ≡ map (λ cell. cell.now) l.head
