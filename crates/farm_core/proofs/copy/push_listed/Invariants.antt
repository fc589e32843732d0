use Rattle.std.proofs.Common.{◌≡◌, ◌++◌, drop}
use Rattle.farm_core.specs.AllRows.{depends_listed, marks_listed}
use Rattle.farm_core.proofs.copy.push_listed.Given as goal

-- those so far and those of what is left are all
abbrev pub invariant-loop-row : goal.invariant-loop-row
invariant-loop-row l = record {
  depends : l.depends.items ++ depends_listed (drop l.row-index l.rows) ≡ l.fn.depends.items ++ depends_listed l.rows;
  met : l.met.items ++ marks_listed (drop l.row-index l.rows) ≡ l.fn.met.items ++ marks_listed l.rows;
}
