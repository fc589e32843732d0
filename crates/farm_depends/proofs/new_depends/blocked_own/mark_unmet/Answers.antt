use Rattle.std.proofs.Common.{◌∙◌, ℕ, ◌||◌, List, sym, ap, arith}
use Rattle.std.specs.Bool.{◌==◌}
use Rattle.depend_graph.specs.Graph.{is_flagged}
use Rattle.farm_depends.specs.Follow.{is_listed}
use Rattle.farm_depends.specs.Coming.{unmet_by}
use Rattle.std.proofs.Common.{take}
use Rattle.farm_depends.proofs.Walks.{list_any-append, marked_more, unmet_more}
use Rattle.farm_depends.proofs.new_depends.blocked_own.mark_unmet.Goals as goal

pub loop-group-preserved : goal.loop-group-preserved
loop-group-preserved c =
    let done = c.args.depends.now.graph.done in
    let groups = c.args.groups.now in
    let i = c.loop-group.group-index in
    let g = c.group-item.result in
    let before = unmet_by done (take i groups) in
    let more = unmet_more done groups i g (omega arith) c.group-item.is (sym c.is_met_at_once.ensures ∙ c.if-is_met_at_once.false) in
    let count = c.loop-group.invariant.count in
    record {
      marks = λ slot within.
          marked_more (is_flagged c.args.marks.now.items slot) (is_flagged c.loop-group.marks.items slot) (is_flagged c.mark.new.marks.items slot) (is_listed before slot) (is_listed g.waiters slot)
          (c.mark.ensures.marks slot (omega (arith, count, within)) ∙ ap (λ (ns : List ℕ). is_flagged c.loop-group.marks.items slot || is_listed ns slot) c.as_slice.ensures)
          (c.loop-group.invariant.marks slot within)
          ∙ sym (ap (λ (ns : List ℕ). is_flagged c.args.marks.now.items slot || is_listed ns slot) more
          ∙ ap (λ b. is_flagged c.args.marks.now.items slot || b) (list_any-append (λ (n : ℕ). n == slot) before g.waiters));
      count = c.mark.ensures.count ∙ count;
    }
