use Rattle.std.proofs.Common.{◌≡◌, ◌++◌, drop, map}
use Rattle.std.specs.List.{filter}
use Rattle.farm_rows.specs.declared.farm_row.FarmRow.TheVariants as row
use Rattle.farm_core.specs.AllRows.{is_told}
use Rattle.farm_core.proofs.rows.push_told.Given as goal

abbrev pub invariant-loop-mark : goal.invariant-loop-mark
invariant-loop-mark l = l.rows.items ++ map row.Met (filter (is_told l.depends.graph.depends) (drop l.mark-index l.marks)) ≡ l.fn.rows.items ++ map row.Met (filter (is_told l.depends.graph.depends) l.marks)
