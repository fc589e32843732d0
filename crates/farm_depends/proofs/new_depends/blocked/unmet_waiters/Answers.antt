use Rattle.std.proofs.Common.{List, ℕ, ◌++◌, ◌∙◌, take, sym, ap, arith}
use Rattle.farm_depends.specs.Coming.{unmet_by}
use Rattle.farm_depends.proofs.Walks.{unmet_more}
use Rattle.farm_depends.proofs.new_depends.blocked.unmet_waiters.Goals as goal

pub loop-group-preserved : goal.loop-group-preserved
loop-group-preserved c =
    let g = c.group-item.result in
    c.in_ok-extend_from_slice.ensures.items ∙ (ap (λ (ns : List ℕ). ns ++ c.as_slice.result.now) c.loop-group.invariant ∙ ap (λ (ns : List ℕ). unmet_by c.args.depends.now.graph.done (take c.loop-group.group-index c.args.groups.now) ++ ns) c.as_slice.ensures)
    ∙ sym (unmet_more c.args.depends.now.graph.done c.args.groups.now c.loop-group.group-index g (omega arith) c.group-item.is (sym c.is_met_at_once.ensures ∙ c.if-is_met_at_once.false))
