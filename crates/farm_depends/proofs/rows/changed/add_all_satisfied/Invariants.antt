use Rattle.std.proofs.Common.{◌≡◌, ◌++◌, drop}
use Rattle.farm_depends.specs.FollowRows.{all_satisfied_rows}
use Rattle.farm_depends.proofs.rows.changed.add_all_satisfied.Given as goal

abbrev pub invariant-loop-depend : goal.invariant-loop-depend
invariant-loop-depend l = l.rows.items ++ all_satisfied_rows l.depends (drop l.depend-index l.satisfied) ≡ l.fn.rows.items ++ all_satisfied_rows l.depends l.satisfied
