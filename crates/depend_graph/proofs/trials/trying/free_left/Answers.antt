use Rattle.std.proofs.Common.{◌∙◌, ◌+◌, ◌++◌, [], cond, drop, sym, ap, append_assoc, arith}
use Rattle.farm_types.proofs.Lists.{slice_get_below}
use Rattle.depend_graph.specs.Trial.{waiters_left}
use Rattle.depend_graph.proofs.GoingLemmas.WaitersLeft.{waiters_next}
use Rattle.depend_graph.proofs.trials.trying.free_left.Goals as goal

pub loop-group-preserved : goal.loop-group-preserved
loop-group-preserved c =
    let d = c.args.listed.now in
    let l = c.loop-group in
    let g = slice_get_below d.groups l.group (omega (arith, c.len-group-end.ensures)) in
    let n = slice_get_below d.counts l.group (omega (arith, c.len-group-end.ensures, c.requires.counted)) in
    let later = waiters_left (drop (l.group + 1) d.groups) (drop (l.group + 1) d.counts) in
    ap (λ xs. xs ++ later) (c.in_ok-free_group.ensures g.0 n.0 g.1 n.1)
    ∙ (append_assoc l.freed.items (cond n.0.met [] g.0.waiters) later ∙ (ap (λ xs. l.freed.items ++ xs) (sym (waiters_next d.groups d.counts l.group g.0 n.0 g.1 n.1)) ∙ l.invariant))
