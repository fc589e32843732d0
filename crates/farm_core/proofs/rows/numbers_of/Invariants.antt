use Rattle.std.proofs.Common.{◌≡◌, ◌++◌, length, map}
use Rattle.farm_types.specs.Rising.{depend_key}
use Rattle.farm_core.specs.AllRows.{numbers_above}
use Rattle.farm_core.proofs.rows.numbers_of.Given as goal

abbrev pub invariant-loop-depend : goal.invariant-loop-depend
invariant-loop-depend l = l.numbers ++ numbers_above l.after l.depends.rows ≡ map depend_key l.depends.rows

abbrev pub decreases-loop-depend : goal.decreases-loop-depend
decreases-loop-depend l = length (numbers_above l.after l.depends.rows)
