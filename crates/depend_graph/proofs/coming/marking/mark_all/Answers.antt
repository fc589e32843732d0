use Rattle.std.proofs.Common.{◌≤◌, ◌∙◌, ◌++◌, List, append-nil, drop, length, sym, ap, arith}
use Rattle.std.proofs.Math.ListN.{length-set}
use Rattle.std.proofs.lemmas.List.{drop_all, take_all}
use Rattle.farm_types.proofs.Lists.{slice_get_below}
use Rattle.depend_edges.specs.declared.listed.Count.{Count}
use Rattle.depend_graph.specs.Marked.{marked, marked_counts}
use Rattle.depend_graph.proofs.ComingLemmas.Marked.{marked_next}
use Rattle.depend_graph.proofs.coming.marking.mark_all.Goals as goal

pub loop-place-preserved : goal.loop-place-preserved
loop-place-preserved c =
    let cs = c.loop-place.counts.items in
    let k = c.loop-place.place in
    let ms = c.args.marks.now in
    let x = slice_get_below cs k (omega (arith, c.loop-place.invariant.long, c.len-place-end.ensures)) in
    let set = c.mark_one.ensures x.0 x.1 in
    record {
      counts = marked_next cs c.mark_one.new.counts.items (marked_counts c.args.counts.now.items ms) ms k x.0 c.is_marked.result x.1 c.is_marked.ensures set c.loop-place.invariant.counts;
      long = ap (λ (xs : List Count). length xs) set ∙ (length-set cs k (marked c.is_marked.result x.0) ∙ c.loop-place.invariant.long);
    }

pub mark_one-requires : goal.mark_one-requires
mark_one-requires c = omega (arith, c.loop-place.invariant.long, c.len-place-end.ensures)

pub returns : goal.returns
returns c =
    let cs = c.loop-place.counts.items in
    let k = c.loop-place.place in
    let ended : length cs ≤ k = omega (arith, c.loop-place.invariant.long, c.loop-place-test.false, c.len-place-end.ensures) in
    sym (append-nil cs) ∙ ((λ i. sym (take_all k cs ended) i ++ marked_counts (sym (drop_all k cs ended) i) (drop k c.args.marks.now)) ∙ c.loop-place.invariant.counts)
