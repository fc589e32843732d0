use Rattle.std.proofs.Common.{◌≡◌, ◌++◌, drop}
use Rattle.farm_core.specs.AllRows.{marks_told}
use Rattle.farm_core.proofs.rows.push_marks_of.Given as goal

abbrev pub invariant-loop-depend : goal.invariant-loop-depend
invariant-loop-depend l = l.rows.items ++ marks_told l.depends.graph.depends (drop l.depend-index l.numbers) ≡ l.fn.rows.items ++ marks_told l.depends.graph.depends l.numbers
