use Rattle.std.proofs.Common.{◌∙◌, IfOk, subst}
use Rattle.farm_types.specs.Farm.{Farm}
use Rattle.farm_types.specs.Step.{refusal_of}
use Rattle.farm_lines.specs.Transcript.{entry_answer, unless_memory}
use Rattle.booking_table.specs.Seats.{view}
use Rattle.line_answers.specs.LineAnswers.{MayStoreEntry}
use Rattle.line_answers.specs.Lines.{shown}
use Rattle.world_answers.specs.Marks.{IsMarked}
use Rattle.world_answers.proofs.Started.{begins, is_alone, no_entries}
use Rattle.world_answers.proofs.on_words.answer_act_on.Goals as goal

pub make-recorder-requires-clause-unplaced : goal.make-recorder-requires-clause-unplaced
make-recorder-requires-clause-unplaced g c = begins (view c.args.seat) c.requires.first

pub answer_act_with-came-requires-clause-keeper : goal.answer_act_with-came-requires-clause-keeper
answer_act_with-came-requires-clause-keeper g c = c.make-recorder.ensures.keeper ∙ c.make.ensures

pub answer_act_with-came-requires-clause-alone : goal.answer_act_with-came-requires-clause-alone
answer_act_with-came-requires-clause-alone g c =
    is_alone (view c.args.seat) c.args.farm c.make-recorder.result.view c.requires.first c.make-recorder.ensures.placed

pub answer_act_with-came-requires-clause-fresh : goal.answer_act_with-came-requires-clause-fresh
answer_act_with-came-requires-clause-fresh g c =
    no_entries (view c.args.seat) c.args.farm c.make-recorder.result.view c.requires.first c.make-recorder.ensures.placed

pub returns : goal.returns
returns g c =
    let e = c.args.entry.now in
    subst
    (λ (f : Farm). IfOk c.answer_act_with-came.result (λ came. IsMarked f (λ mark. unless_memory mark (entry_answer f e mark (refusal_of f e)))
    (MayStoreEntry f e) c.args.due came.farm (shown came.line)))
    c.make-recorder.ensures.farm c.answer_act_with-came.ensures
