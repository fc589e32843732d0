use Rattle.std.proofs.Common.{IfOk, subst}
use Rattle.farm_types.specs.Farm.{Farm}
use Rattle.world_answers.specs.Marks.{IsTaken}
use Rattle.world_answers.proofs.on_words.answer_report.Goals as goal

pub returns : goal.returns
returns c =
    subst (λ (g : Farm). IfOk c.answer_report_on.result (λ came. IsTaken g c.args.report c.args.moment c.args.due came.farm came.taken)) c.in_ok-copy.ensures
    c.answer_report_on.ensures
