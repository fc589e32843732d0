use Rattle.depend_graph.proofs.Made.{made_depends, made_sums}
use Rattle.depend_graph.proofs.graph.no_tally.Goals as goal

pub returns-clause-kept : goal.returns-clause-kept
returns-clause-kept c =
    let none = c.in_ok-with_capacity.ensures.items in
    record {
      depends = made_depends _ none;
      sums = made_sums _ _ none (c.in_ok-vec.ensures.items_if_clones_equal (λ y h. h));
      room = c.in_ok-with_capacity.ensures.capacity;
    }
