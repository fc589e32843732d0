use Rattle.std.proofs.Common.{◌∙◌, IfOk, subst}
use Rattle.farm_types.specs.Farm.{Farm}
use Rattle.booking_table.specs.Seats.{view}
use Rattle.world_answers.specs.Marks.{IsTaken}
use Rattle.world_answers.proofs.Started.{begins, is_alone, no_entries}
use Rattle.world_answers.proofs.on_words.answer_report_on.Goals as goal

pub make-recorder-requires-clause-unplaced : goal.make-recorder-requires-clause-unplaced
make-recorder-requires-clause-unplaced g c = begins (view c.args.seat) c.requires.first

pub answer_report_with-came-requires-clause-keeper : goal.answer_report_with-came-requires-clause-keeper
answer_report_with-came-requires-clause-keeper g c = c.make-recorder.ensures.keeper ∙ c.make.ensures

pub answer_report_with-came-requires-clause-alone : goal.answer_report_with-came-requires-clause-alone
answer_report_with-came-requires-clause-alone g c =
    is_alone (view c.args.seat) c.args.farm c.make-recorder.result.view c.requires.first c.make-recorder.ensures.placed

pub answer_report_with-came-requires-clause-fresh : goal.answer_report_with-came-requires-clause-fresh
answer_report_with-came-requires-clause-fresh g c =
    no_entries (view c.args.seat) c.args.farm c.make-recorder.result.view c.requires.first c.make-recorder.ensures.placed

pub returns : goal.returns
returns g c =
    subst (λ (f : Farm). IfOk c.answer_report_with-came.result (λ came. IsTaken f c.args.report c.args.moment c.args.due came.farm came.taken))
    c.make-recorder.ensures.farm c.answer_report_with-came.ensures
