use Rattle.std.proofs.Common.{◌≡◌, length}
use Rattle.farm_types.specs.Finish.{without_waiter}
use Rattle.farm_types.specs.Rising.{IsRising, depend_key}
use Rattle.depend_book.specs.Book.{graph_without}
use Rattle.depend_book.proofs.forgetting.forget_all.Given as goal

abbrev pub invariant-loop-depend : goal.invariant-loop-depend
invariant-loop-depend l = record {
  rise : IsRising depend_key 1 l.rows.rows l.rows.next;
  graph : graph_without l.job l.rows.rows l.graph ≡ graph_without l.job l.fn.rows.rows l.fn.graph;
  rows : without_waiter l.job l.rows.rows ≡ without_waiter l.job l.fn.rows.rows;
  next : l.rows.next ≡ l.fn.rows.next;
}

abbrev pub decreases-loop-depend : goal.decreases-loop-depend
decreases-loop-depend l = length l.rows.rows
