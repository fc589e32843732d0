use Rattle.std.proofs.Common.{◌∙◌}
use Rattle.std.proofs.lemmas.Result.{on_ok_weaker}
use Rattle.depend_graph.specs.Graph.{groups_at}
use Rattle.farm_finish.proofs.RowLemmas.AddedJob.{gone_then}
use Rattle.farm_finish.proofs.rows_gone.depend_goes.Goals as goal

pub returns : goal.returns
returns c =
    let news = c.marks_go.new.changes.items in
    let marks = c.as_slice.ensures ∙ c.in_ok-marks.ensures in
    on_ok_weaker c.marks_go.result
    (λ is. gone_then c.args.changes.now.items c.push.new.self.items news c.args.depend (groups_at c.args.depends.now.graph.depends) c.as_slice.result.now marks c.in_ok-push.ensures.items is) c.marks_go.ensures
