-- A report that the farm refuses.
use Rattle.std.proofs.Common.{◌≡◌, ◌∙◌, ℕ, true, false, List, [], Option, None, Some, Ok, Err, refl, sym, ap, subst}
use Rattle.std.specs.Prelude.{is_some}
use Rattle.std.proofs.lemmas.Bool.{false≢true}
use Rattle.farm_types.specs.declared.attempt.DoneItem.{DoneItem}
use Rattle.farm_types.specs.declared.entry.Entry.{Entry}
use Rattle.farm_types.specs.declared.refusal.Refusal.{Refusal}
use Rattle.farm_types.specs.Farm.{Farm}
use Rattle.farm_types.specs.Run.{run_of}
use Rattle.farm_types.specs.Step.{refusal_of}
use Rattle.farm_rows.specs.Rows.{rows_of}
use Rattle.farm_lines.specs.declared.reply.Reply.{Reply}
use Rattle.farm_lines.specs.declared.reply.Reply.TheVariants as reply
use Rattle.farm_lines.specs.declared.report.Report.{Report}
use Rattle.farm_lines.specs.Asked.{heard_entry}
use Rattle.farm_lines.specs.Reply.{reply_text}
use Rattle.farm_lines.specs.Transcript.{Answered, Mark, Plain, Memory, Store, CutAfter, StoreAfter, LatePlain, LateCut, LateStore, report_answer, unless_memory}
use Rattle.line_answers.specs.declared.told.Taken.{Taken}
use Rattle.line_answers.specs.LineAnswers.{reported}
use Rattle.line_answers.specs.Told.{Tells}
use Rattle.world_law.specs.Ends.{ends_along}
use Rattle.world_law.specs.Lines.{HasCommit}
use Rattle.world_answers.specs.declared.leaving.Left.{Left}
use Rattle.world_answers.specs.declared.trial.Trial.{Trial}
use Rattle.world_answers.specs.declared.trial.TrialFault.TheVariants as fault
use Rattle.world_answers.specs.Leaving.{LeavesReport}
use Rattle.world_answers.specs.Marks.{IsTaken}
use Rattle.world_answers.specs.Reporting.{HasText}
use Rattle.world_answers.specs.Trials.{IsTrial, Tries}
use Rattle.world_answers.proofs.Replied.{only, some_such, with_none}

module _ (f : Farm) (report : Report) (moment : ℕ) where
  abbrev answers : Option Refusal → Mark → Answered
  answers o mark = unless_memory mark (report_answer f report moment mark o)

  refused_by : (why : Refusal) (mark : Mark) (new : Farm) (text : List ℕ) → new ≡ run_of f (answers (Some why) mark).entries
      → HasText (answers (Some why) mark).reply text
      → (new ≡ f) × (text ≡ reply_text (reply.Refused why))
  refused_by why Plain new text farm has = (farm, has.0)
  refused_by why Memory new text farm has = absurd (false≢true (sym has.1))
  refused_by why Store new text farm has = (farm, has.0)
  refused_by why (CutAfter k) new text farm has = (farm, has.0)
  refused_by why (StoreAfter k) new text farm has = (farm, has.0)
  refused_by why LatePlain new text farm has = (farm, has.0)
  refused_by why (LateCut k) new text farm has = (farm, has.0)
  refused_by why (LateStore k) new text farm has = (farm, has.0)

  module _ (refuses : (why : Refusal) × (refusal_of f (heard_entry report moment) ≡ Some why)) where
    pub refused_none : (refused : Option ℕ) → is_some refused ≡ true → Tries f (reported f report moment) refused (Err fault.NoSuch)
    refused_none refused some =
        some_such (HasCommit f (reported f report moment Plain).entries) refused some
        (λ k has. subst (λ (o : Option Refusal). HasCommit f (answers o Plain).entries k) refuses.1 has)

    refused_trial : (new : Farm) (taken : Taken) (text : List ℕ) → IsTaken f report moment None new taken
        → ((told : Reply) → Tells taken.told told → HasText told text)
        → IsTrial f (reported f report moment) None (record { farm = new; entries = []; ends = []; stored = false; reply = text; further = None })
    refused_trial new taken text came of =
        let is = refuses.1 in
        let by = refused_by refuses.0 came.mark new text (came.farm ∙ ap (λ (o : Option Refusal). run_of f (answers o came.mark).entries) is)
        (subst (λ (o : Option Refusal). HasText (answers o came.mark).reply text) is (of (reported f report moment came.mark).reply came.reply)) in
        record {
          may = tt;
          farm = by.0 ∙ ap (λ (o : Option Refusal). run_of f (answers o Plain).entries) (sym is);
          entries = ap (λ (o : Option Refusal). (answers o Plain).entries) (sym is);
          ends = ap (λ (o : Option Refusal). ends_along f (answers o Plain).entries) (sym is);
          stored = ap (λ (o : Option Refusal). rows_of (run_of f (answers o Plain).entries)) (sym is);
          reply = by.1 ∙ ap (λ (o : Option Refusal). reply_text (answers o Plain).reply) (sym is);
          further = tt;
        }

    refused_report : (refused : Option ℕ) → is_some refused ≡ false → (new : Farm) (taken : Taken) (text : List ℕ) → IsTaken f report moment None new taken
        → ((told : Reply) → Tells taken.told told → HasText told text) → (entries : List Entry) → entries ≡ [] → (ends : List DoneItem) → ends ≡ []
        → Tries f (reported f report moment) refused (Ok (only new entries ends text))
    refused_report (Some k) none new taken text came of entries no_entries ends no_ends = absurd (false≢true (sym none))
    refused_report None none new taken text came of entries no_entries ends no_ends =
        with_none (IsTrial f (reported f report moment) None) new text entries ends no_entries no_ends (refused_trial new taken text came of)

    -- by what its answer left
    pub refused_alone : (refused : Option ℕ) → is_some refused ≡ false → (left : Left) → LeavesReport f report moment None left → (t : Trial)
        → t ≡ only left.farm [] [] left.reply
        → Tries f (reported f report moment) refused (Ok t)
    refused_alone refused none left is t made =
        subst (λ (x : Trial). Tries f (reported f report moment) refused (Ok x)) (sym made)
        (refused_report refused none left.farm is.taken left.reply is.is is.text [] refl [] refl)
