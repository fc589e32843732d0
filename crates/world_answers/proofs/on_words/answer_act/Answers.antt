use Rattle.std.proofs.Common.{IfOk, subst}
use Rattle.farm_types.specs.Farm.{Farm}
use Rattle.farm_types.specs.Step.{refusal_of}
use Rattle.farm_lines.specs.Transcript.{entry_answer, unless_memory}
use Rattle.line_answers.specs.LineAnswers.{MayStoreEntry}
use Rattle.line_answers.specs.Lines.{shown}
use Rattle.world_answers.specs.Marks.{IsMarked}
use Rattle.world_answers.proofs.on_words.answer_act.Goals as goal

pub returns : goal.returns
returns c =
    let e = c.args.entry.now in
    subst
    (λ (g : Farm). IfOk c.answer_act_on.result (λ came. IsMarked g (λ mark. unless_memory mark (entry_answer g e mark (refusal_of g e))) (MayStoreEntry g e)
    c.args.due
    came.farm (shown came.line)))
    c.in_ok-copy.ensures c.answer_act_on.ensures
