-- What is left, by what came of the answer.
use Rattle.std.proofs.Common.{◌≡◌, ℕ, List, Option, Result, IfOk, sym, subst}
use Rattle.std.proofs.lemmas.Result.{IfOk-weaker}
use Rattle.std.specs.declared.alloc.AllocError.{AllocError}
use Rattle.farm_types.specs.declared.entry.Entry.{Entry}
use Rattle.farm_types.specs.Farm.{Farm}
use Rattle.farm_types.specs.Step.{refusal_of}
use Rattle.farm_lines.specs.declared.reply.Reply.{Reply}
use Rattle.farm_lines.specs.declared.report.Report.{Report}
use Rattle.farm_lines.specs.Transcript.{entry_answer, unless_memory}
use Rattle.line_answers.specs.LineAnswers.{MayStoreEntry}
use Rattle.line_answers.specs.Told.{Tells}
use Rattle.line_answers.specs.declared.told.Taken.{Taken}
use Rattle.world_answers.specs.declared.leaving.Left.{Left}
use Rattle.world_answers.specs.Leaving.{LeavesAct, LeavesReport}
use Rattle.world_answers.specs.Marks.{IsMarked, IsTaken}
use Rattle.world_answers.specs.Reporting.{HasText}
use Rattle.world_answers.specs.Trials.{IsTextOf}

pub act_leaves : (f : Farm) (e : Entry) (due : Option ℕ) (farm : Farm) (line : List ℕ)
    → IsMarked f (λ mark. unless_memory mark (entry_answer f e mark (refusal_of f e))) (MayStoreEntry f e) due farm line
    → (r : Result Left AllocError) → IfOk r (λ left. (left.farm ≡ farm) × IsTextOf line left.reply) → IfOk r (LeavesAct f e due)
act_leaves f e due farm line marked r =
    IfOk-weaker r (λ (left : Left). (left.farm ≡ farm) × IsTextOf line left.reply) (LeavesAct f e due)
    (λ left is. record {
      line = line;
      marked =
          subst (λ (g : Farm). IsMarked f (λ mark. unless_memory mark (entry_answer f e mark (refusal_of f e))) (MayStoreEntry f e) due g line) (sym is.0) marked;
      text = is.1;
    })

pub report_leaves : (f : Farm) (report : Report) (moment : ℕ) (due : Option ℕ) (farm : Farm) (taken : Taken) → IsTaken f report moment due farm taken
    → (r : Result Left AllocError)
    → IfOk r (λ left. (left.farm ≡ farm) × ((told : Reply) → Tells taken.told told → HasText told left.reply))
    → IfOk r (LeavesReport f report moment due)
report_leaves f report moment due farm taken was r =
    IfOk-weaker r (λ (left : Left). (left.farm ≡ farm) × ((told : Reply) → Tells taken.told told → HasText told left.reply)) (LeavesReport f report moment due)
    (λ left is. record {
      taken = taken;
      is = subst (λ (g : Farm). IsTaken f report moment due g taken) (sym is.0) was;
      text = is.1;
    })
