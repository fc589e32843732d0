use Rattle.std.proofs.Common.{◌≡◌, ◌+◌, ◌++◌, drop}
use Rattle.farm_depends.specs.FollowRows.{all_coming_rows}
use Rattle.farm_depends.proofs.rows.changed.add_coming.Given as goal

abbrev pub invariant-loop-new : goal.invariant-loop-new
invariant-loop-new l =
    record {
      number : l.number ≡ l.depends.next + l.new-index;
      rows : l.rows.items ++ all_coming_rows l.depends.graph.done l.number (drop l.new-index l.coming) ≡ l.fn.rows.items ++ all_coming_rows l.depends.graph.done l.depends.next l.coming;
    }
