use Rattle.std.proofs.Common.{◌≡◌, ◌++◌, drop}
use Rattle.farm_core.specs.AllRows.{rows_told}
use Rattle.farm_core.proofs.rows.push_rows_of.Given as goal

abbrev pub invariant-loop-depend : goal.invariant-loop-depend
invariant-loop-depend l = l.rows.items ++ rows_told l.depends (drop l.depend-index l.numbers) ≡ l.fn.rows.items ++ rows_told l.depends l.numbers
