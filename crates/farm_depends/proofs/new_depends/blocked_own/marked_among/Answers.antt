use Rattle.std.proofs.Common.{◌∙◌, ◌++◌, ℕ, List, filter, sym, ap, arith, take}
use Rattle.std.proofs.lemmas.List.Elements.{filter-append}
use Rattle.farm_types.specs.Groups.{all_slots}
use Rattle.depend_graph.specs.Graph.{is_flagged}
use Rattle.farm_depends.proofs.Walks.{slots_more}
use Rattle.farm_depends.proofs.new_depends.blocked_own.marked_among.Goals as goal

pub loop-layer-preserved : goal.loop-layer-preserved
loop-layer-preserved c =
    let layers = c.args.layers.now in
    let i = c.loop-layer.layer-index in
    let l = c.layer-item.result in
    let test = is_flagged c.args.marks.now in
    c.in_ok-add_marked.ensures ∙ (ap (λ (ns : List ℕ). ns ++ filter test c.as_slice.result.now) c.loop-layer.invariant ∙ (ap (λ (ns : List ℕ). filter test (all_slots (take i layers)) ++ filter test ns) c.as_slice.ensures
    ∙ sym (ap (filter test) (slots_more layers i l (omega arith) c.layer-item.is) ∙ filter-append test (all_slots (take i layers)) l.slots)))
