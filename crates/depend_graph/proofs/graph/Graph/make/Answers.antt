use Rattle.std.proofs.Common.{Bool, List, None, Option, false, length, ap, ◌∙◌}
use Rattle.std.proofs.lemmas.List.{length-replicate}
use Rattle.farm_types.specs.declared.limits.TheConstants.{SLOT_LIMIT}
use Rattle.depend_edges.specs.declared.links.EdgeAt.{EdgeAt}
use Rattle.depend_graph.specs.Inside.{there_of, watches}
use Rattle.depend_graph.proofs.Made.{made_counts, made_ways}
use Rattle.depend_graph.proofs.graph.Graph.make.Goals as goal

pub invariant_of-result : goal.invariant_of-result
invariant_of-result c =
    let none = c.in_ok-no_tally.ensures.none in
    let ends = c.in_ok-no_edges.ensures in
    record {
      tally = c.in_ok-no_tally.ensures.kept;
      counts = made_counts _ _ none;
      ways = made_ways _ _ none ends;
      done_counted = ap (λ (bs : List Bool). length bs) (c.in_ok-vec.ensures.items_if_clones_equal (λ y h. h)) ∙ length-replicate {A = Bool} SLOT_LIMIT false;
      first_counted = ap (λ (os : List (Option EdgeAt)). length os) ends ∙ length-replicate {A = Option EdgeAt} SLOT_LIMIT None;
    }

pub returns : goal.returns
returns c = λ i. record { done = c.in_ok-vec.ensures.items_if_clones_equal (λ y h. h) i; depends = watches (there_of (c.in_ok-no_tally.ensures.none i)) }
