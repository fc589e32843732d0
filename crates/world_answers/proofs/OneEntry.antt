-- A request of one entry: what it came to is the trial of its marks.
use Rattle.std.proofs.Common.{◌≡◌, ℕ, Bool, true, false, List, [], Option, None, Some, Result, Ok, Err, refl, sym, subst}
use Rattle.std.specs.Prelude.{IsErrAnd, is_some}
use Rattle.std.proofs.lemmas.Bool.{false≢true}
use Rattle.std.proofs.lemmas.Result.{err_from_is_err_and}
use Rattle.farm_types.specs.declared.attempt.DoneItem.{DoneItem}
use Rattle.farm_types.specs.declared.entry.Entry.{Entry}
use Rattle.farm_types.specs.declared.refusal.Refusal.{Refusal}
use Rattle.farm_types.specs.Farm.{Farm}
use Rattle.farm_types.specs.Run.{IsLegalStep}
use Rattle.farm_types.specs.Step.{after, refusal_of}
use Rattle.farm_lines.specs.Transcript.{Answered, Mark, Plain, entry_answer, unless_memory}
use Rattle.line_answers.specs.LineAnswers.{MayStoreEntry}
use Rattle.world_law.specs.Lines.{HasCommit}
use Rattle.world_answers.specs.declared.acting.Acted.{Acted}
use Rattle.world_answers.specs.declared.leaving.Left.{Left}
use Rattle.world_answers.specs.declared.trial.Trial.{Trial}
use Rattle.world_answers.specs.declared.trial.TrialFault.{TrialFault}
use Rattle.world_answers.specs.declared.trial.TrialFault.TheVariants as fault
use Rattle.world_answers.specs.declared.walking.First.{First}
use Rattle.world_answers.specs.Acting.{Acts, IsNoReport, recorded_if, trial_by, trial_if}
use Rattle.world_answers.specs.Leaving.{LeavesAct}
use Rattle.world_answers.specs.Marks.{IsMarked}
use Rattle.world_answers.specs.Trials.{Tries}
use Rattle.world_answers.specs.Walking.{IsFirst, Says}
use Rattle.world_answers.proofs.Acted.{no_commit, recorded_trial, refused_none, refused_trial, unstored_trial}
use Rattle.world_answers.proofs.Replied.{some_such}

module _ (f : Farm) (e : Entry) where
  abbrev answers : Mark → Answered
  answers mark = unless_memory mark (entry_answer f e mark (refusal_of f e))

  -- where memory ran out nothing is told
  pub acts_without_memory : (refused : Option ℕ) (r : Result Acted TrialFault) → IsErrAnd r (λ why. why ≡ fault.NoMemory) → Acts f e refused r
  acts_without_memory refused r ran_out =
      let p = err_from_is_err_and r ran_out in
      subst (Acts f e refused) (sym p.1) (subst (λ (why : TrialFault). Acts f e refused (Err why)) (sym p.2) (λ no_report. tt))

  abbrev Refuses : Type 0
  Refuses = (why : Refusal) × (refusal_of f e ≡ Some why)

  pub refused_such : Refuses → (refused : Option ℕ) → is_some refused ≡ true → Acts f e refused (Err fault.NoSuch)
  refused_such refuses refused some =
      λ no_report. some_such (HasCommit f (answers Plain).entries) refused some (λ k has. refused_none f e refuses.0 (refusal_of f e) refuses.1 k has)

  pub refused_acts : Refuses → (refused : Option ℕ) → is_some refused ≡ false → (left : Left) → LeavesAct f e None left
      → Acts f e refused (Ok (record { farm = left.farm; recorded = false; stored = false; reply = left.reply; further = None }))
  refused_acts refuses (Some k) none left is = absurd (false≢true (sym none))
  refused_acts refuses None none left is =
      λ no_report. refused_trial f e refuses.0 (refusal_of f e) refuses.1 None left.farm is.line left.reply is.marked is.text

  pub recorded_acts : IsLegalStep f e → (stored : Bool) → Says stored f (after f e) → (left : Left) → LeavesAct f e None left
      → Acts f e None (Ok (record { farm = left.farm; recorded = true; stored = stored; reply = left.reply; further = None }))
  recorded_acts legal stored said left is =
      λ no_report. recorded_trial f e no_report (after f e) stored refl said (refusal_of f e) legal.accepted left.farm is.line left.reply is.marked is.text

  module _ (first : First) (is : IsFirst f e first) where
    none_such : (number : ℕ) → (number ≡ 0 → first.stored ≡ false) → Acts f e (Some number) (Err fault.NoSuch)
    none_such number off = λ no_report has. no_commit f e no_report first.farm first.stored is.farm is.said (refusal_of f e) is.legal.accepted number off has

    -- the entry is no commit, or the number is a later one
    pub no_such : first.stored ≡ false → (number : ℕ) → Acts f e (Some number) (Err fault.NoSuch)
    no_such none number = none_such number (λ at. none)

    pub no_such_later : (number : ℕ) → (number ≡ 0 → ⊥) → Acts f e (Some number) (Err fault.NoSuch)
    no_such_later number off = none_such number (λ at. absurd (off at))

    pub unstored_acts : first.stored ≡ true → (number : ℕ) → number ≡ 0 → (left : Left) → LeavesAct f e (Some number) left
        → (ends : List DoneItem) → ends ≡ []
        → Acts f e (Some number) (Ok (record {
          farm = left.farm;
          recorded = false;
          stored = false;
          reply = left.reply;
          further =
              Some (record { farm = first.farm; ends = ends });
        }))
    unstored_acts changes number at left is_left ends none =
        subst
        (λ (ds : List DoneItem).
        Acts f e (Some number) (Ok (record {
          farm = left.farm;
          recorded = false;
          stored = false;
          reply = left.reply;
          further =
              Some (record { farm = first.farm; ends = ds });
        })))
        (sym none)
        (λ no_report. unstored_trial f e no_report first.farm first.stored is.farm is.said (refusal_of f e) is.legal.accepted changes number at left.farm
        is_left.line left.reply (subst (λ (n : ℕ). IsMarked f answers (MayStoreEntry f e) (Some n) left.farm is_left.line) at is_left.marked) is_left.text)

-- ---- the trial, by what it came to

pub made_by : (acted : Acted) (e : Entry) (entries : List Entry) → entries ≡ recorded_if acted.recorded e → (ends : List DoneItem) → ends ≡ []
    → record {
      farm = acted.farm;
      entries = entries;
      ends = ends;
      stored = acted.stored;
      reply = acted.reply;
      further = acted.further;
    } ≡ trial_by acted e
made_by acted e entries are ends none =
    λ i. record { farm = acted.farm; entries = are i; ends = none i; stored = acted.stored; reply = acted.reply; further = acted.further }

-- by the entry that was put into a list and read there
pub tries_as : (f : Farm) (refused : Option ℕ) (acted : Result Acted TrialFault) (e read : Entry) → read ≡ e → Acts f read refused acted → IsNoReport e.act
    → (result : Result Trial TrialFault) → result ≡ trial_if acted e
    → Tries f (λ mark. unless_memory mark (entry_answer f e mark (refusal_of f e))) refused result
tries_as f refused acted e read is acts no_report result made =
    subst (Tries f (λ mark. unless_memory mark (entry_answer f e mark (refusal_of f e))) refused) (sym made)
    (subst (λ (x : Entry). Acts f x refused acted) is acts no_report)
