use Rattle.std.proofs.Common.{◌∙◌, ℕ, ◌||◌, List, sym, ap, arith, take}
use Rattle.std.specs.Bool.{◌==◌}
use Rattle.farm_types.specs.declared.depend.Group.{Group}
use Rattle.depend_graph.specs.Graph.{is_flagged}
use Rattle.farm_depends.specs.Follow.{is_listed}
use Rattle.farm_depends.specs.Coming.{all_unmet_by, unmet_by}
use Rattle.farm_depends.proofs.Walks.{all_unmet_more, list_any-append, marked_more}
use Rattle.farm_depends.proofs.new_depends.blocked_own.mark_all.Goals as goal

pub loop-new-preserved : goal.loop-new-preserved
loop-new-preserved c =
    let done = c.args.depends.now.graph.done in
    let all = c.args.all.now in
    let i = c.loop-new.new-index in
    let n = c.new-item.result in
    let before = all_unmet_by done (take i all) in
    let these = unmet_by done n.groups in
    let more = all_unmet_more done all i n (omega arith) c.new-item.is in
    let count = c.loop-new.invariant.count in
    record {
      marks = λ slot within.
          marked_more (is_flagged c.args.marks.now.items slot) (is_flagged c.loop-new.marks.items slot) (is_flagged c.mark_unmet.new.marks.items slot) (is_listed before slot) (is_listed these slot)
          (c.mark_unmet.ensures.marks slot (omega (arith, count, within)) ∙ ap (λ (gs : List Group). is_flagged c.loop-new.marks.items slot || is_listed (unmet_by done gs) slot) c.as_slice.ensures)
          (c.loop-new.invariant.marks slot within)
          ∙ sym (ap (λ (ns : List ℕ). is_flagged c.args.marks.now.items slot || is_listed ns slot) more
          ∙ ap (λ b. is_flagged c.args.marks.now.items slot || b) (list_any-append (λ (m : ℕ). m == slot) before these));
      count = c.mark_unmet.ensures.count ∙ count;
    }
