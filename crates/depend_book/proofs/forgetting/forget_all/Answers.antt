use Rattle.std.proofs.Common.{◌∙◌, ℕ, ap, subst, sym}
use Rattle.farm_types.specs.Rising.{IsRising, depend_key}
use Rattle.depend_book.specs.Book.{graph_without}
use Rattle.depend_book.proofs.Forgotten.{none_graph, taken_graph, taken_rise, taken_without}
use Rattle.depend_book.proofs.forgetting.forget_all.Goals as goal

pub loop-depend-preserved : goal.loop-depend-preserved
loop-depend-preserved c =
    let job = c.args.job in
    let n = c.in-Some.depend in
    let olds = c.loop-depend.rows in
    let news = c.take_newest.new.self in
    let so_far = c.loop-depend.invariant in
    let taken = c.in-Some.ensures.some in
    record {
      rise = subst (λ (next : ℕ). IsRising depend_key 1 news.rows next) (sym c.take_newest.ensures.next) (taken_rise job n olds.rows news.rows olds.next taken so_far.rise);
      graph = ap (graph_without job news.rows) c.forget.ensures ∙ (taken_graph job n olds.rows news.rows taken c.loop-depend.graph ∙ so_far.graph);
      rows = taken_without job n olds.rows news.rows olds.next so_far.rise taken ∙ so_far.rows;
      next = c.take_newest.ensures.next ∙ so_far.next;
    }

pub returns-clause-graph : goal.returns-clause-graph
returns-clause-graph c = sym (none_graph c.args.job c.loop-depend.rows.rows c.in_default.ensures.none c.loop-depend.graph) ∙ c.loop-depend.invariant.graph
