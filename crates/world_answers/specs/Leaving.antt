-- What an answer leaves.
use Rattle.std.specs.Prelude.{ℕ, List, Option}
use Rattle.farm_types.specs.declared.entry.Entry.{Entry}
use Rattle.farm_types.specs.Farm.{Farm}
use Rattle.farm_types.specs.Step.{refusal_of}
use Rattle.farm_lines.specs.declared.reply.Reply.{Reply}
use Rattle.farm_lines.specs.declared.report.Report.{Report}
use Rattle.farm_lines.specs.Transcript.{entry_answer, unless_memory}
use Rattle.line_answers.specs.LineAnswers.{MayStoreEntry}
use Rattle.line_answers.specs.Told.{Tells}
use Rattle.line_answers.specs.declared.told.Taken.{Taken}
use Rattle.world_answers.specs.declared.leaving.Left.{Left}
use Rattle.world_answers.specs.Marks.{IsMarked, IsTaken}
use Rattle.world_answers.specs.Reporting.{HasText}
use Rattle.world_answers.specs.Trials.{IsTextOf}

-- the farm and the text of a reply to a request of one entry
pub record LeavesAct (f : Farm) (e : Entry) (due : Option ℕ) (left : Left) : Type 0 where
  pub line : List ℕ
  pub marked : IsMarked f (λ mark. unless_memory mark (entry_answer f e mark (refusal_of f e))) (MayStoreEntry f e) due left.farm line
  pub text : IsTextOf line left.reply

-- so of a report
pub record LeavesReport (f : Farm) (report : Report) (moment : ℕ) (due : Option ℕ) (left : Left) : Type 0 where
  pub taken : Taken
  pub is : IsTaken f report moment due left.farm taken
  pub text : (told : Reply) → Tells taken.told told → HasText told left.reply
