use Rattle.std.proofs.Common.{◌≡◌, take}
use Rattle.farm_books.specs.Limits.{CountsRunning}
use Rattle.farm_books.proofs.limits.limits_of.Given as goal

abbrev pub invariant-loop-row : goal.invariant-loop-row
invariant-loop-row l = record {
  rows : l.limits.limits ≡ l.fn.rows.items;
  running : CountsRunning l.limits l.jobs.layers (take l.row-index l.slots);
}
