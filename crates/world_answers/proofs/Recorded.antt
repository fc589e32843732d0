-- What a recorder whose store refuses one commit made of a line.
use Rattle.std.proofs.Common.{◌≡◌, ◌∙◌, ℕ, Bool, Option, subst}
use Rattle.farm_types.specs.declared.entry.Entry.{Entry}
use Rattle.farm_types.specs.Farm.{Farm}
use Rattle.farm_types.specs.Step.{refusal_of}
use Rattle.farm_lines.specs.declared.report.Report.{Report}
use Rattle.farm_lines.specs.Transcript.{Answered, Mark, Plain, entry_answer, is_store_mark, unless_memory}
use Rattle.line_answers.specs.booking_recorder.specs.Going.{GoesOn}
use Rattle.line_answers.specs.booking_recorder.specs.Recording.{Recording}
use Rattle.line_answers.specs.recorder.specs.Telling as telling
use Rattle.line_answers.specs.declared.reply_line.ReplyLine.{ReplyLine}
use Rattle.line_answers.specs.declared.told.Taken.{Taken}
use Rattle.line_answers.specs.Entering.{AnswersOn}
use Rattle.line_answers.specs.LineAnswers.{AnswersEntry, MayStoreEntry, TakesReport, reported}
use Rattle.line_answers.specs.Lines.{shown}
use Rattle.world_answers.specs.declared.refusing.Refusing.{Refusing}
use Rattle.world_answers.specs.Marks.{IsMarked, IsTaken, WasTold, refusals}
use Rattle.world_answers.specs.Refusing.{new_refusing}

module _ (tells : Refusing → Type 0) (faults : Refusing → ℕ) (f : Farm) (due : Option ℕ) (before now : Recording Refusing) (farm : before.farm ≡ f)
    (keeper : before.keeper ≡ new_refusing due) where
  was_told : (plain made : Answered) (failed : Bool) → GoesOn refusals tells faults before now plain.entries made.entries failed
      → WasTold f plain made failed due
  was_told plain made failed goes = (
    now.keeper,
    subst (λ (k : Refusing). telling.Tells refusals f plain.entries made.entries failed k now.keeper) keeper
        (subst (λ (g : Farm). telling.Tells refusals g plain.entries made.entries failed before.keeper now.keeper) farm goes.told),
  )

  abbrev answers : Entry → Mark → Answered
  answers e mark = unless_memory mark (entry_answer f e mark (refusal_of f e))

  pub marked : (e : Entry) (line : ReplyLine) → AnswersEntry before.farm e now.farm (shown line) (AnswersOn refusals tells faults before now line)
      → (new : Farm) → new ≡ now.farm
      → IsMarked f (answers e) (MayStoreEntry f e) due new (shown line)
  marked e line answered new is =
      let at = subst (λ (g : Farm). AnswersEntry g e now.farm (shown line) (AnswersOn refusals tells faults before now line)) farm answered in
      record {
        mark = at.mark;
        answer = record { farm = is ∙ at.answer.farm; text = at.answer.text };
        may_stand = at.may_stand;
        told = was_told (answers e Plain) (answers e at.mark) (is_store_mark at.mark) at.keeper.goes;
      }

  pub was_taken : (report : Report) (moment : ℕ) (taken : Taken)
      → TakesReport before.farm report moment now.farm taken (GoesOn refusals tells faults before now) → (new : Farm)
      → new ≡ now.farm → IsTaken f report moment due new taken
  was_taken report moment taken takes new is =
      let at = subst (λ (g : Farm). TakesReport g report moment now.farm taken (GoesOn refusals tells faults before now)) farm takes in
      record {
        mark = at.mark;
        farm = is ∙ at.farm;
        reply = at.reply;
        booked = at.booked;
        calm = at.calm;
        may_stand = at.may_stand;
        told = was_told (reported f report moment Plain) (reported f report moment at.mark) (is_store_mark at.mark) at.keeper;
      }
