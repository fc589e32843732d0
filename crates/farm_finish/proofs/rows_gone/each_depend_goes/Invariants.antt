use Rattle.std.proofs.Common.{◌≡◌, ◌++◌, drop}
use Rattle.depend_graph.specs.Graph.{groups_at}
use Rattle.farm_finish.specs.Gone.{depends_gone}
use Rattle.farm_finish.proofs.rows_gone.each_depend_goes.Given as goal

abbrev pub invariant-loop-depend : goal.invariant-loop-depend
invariant-loop-depend l =
    l.changes.items ++ depends_gone (groups_at l.depends.graph.depends) (drop l.depend-index l.gone) ≡ l.fn.changes.items ++ depends_gone (groups_at l.depends.graph.depends) l.gone
