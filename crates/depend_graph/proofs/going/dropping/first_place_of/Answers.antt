use Rattle.std.proofs.Common.{rules, ◌≤◌, length, sym, ap, ◌∙◌, arith}
use Rattle.std.specs.List.{list_any}
use Rattle.std.proofs.lemmas.List.{take_all}
use Rattle.depend_edges.specs.Listed.{has_number}
use Rattle.depend_graph.proofs.going.dropping.first_place_of.Goals as goal

pub returns-clause-none : goal.returns-clause-none
returns-clause-none c = λ none.
    let ended : length c.args.depends.now ≤ c.loop-place.place = search (rules, arith) in
    ap (list_any (has_number c.args.depend)) (sym (take_all c.loop-place.place c.args.depends.now ended)) ∙ c.loop-place.invariant
