-- Lines by what they ask.
use Rattle.std.proofs.Common.{◌≡◌, ◌∙◌, ℕ, zero, suc, Bool, true, false, List, length, Option, None, Some, Result, Ok, Err, refl, sym, ap, subst}
use Rattle.std.specs.Prelude.{IfSome, nat_lt, if◌then◌else◌}
use Rattle.farm_types.specs.Farm.{Farm}
use Rattle.farm_types.specs.Run.{run_of}
use Rattle.farm_lines.specs.declared.asked.Asked.{Asked}
use Rattle.farm_lines.specs.declared.limits.TheConstants.{LINE_LIMIT}
use Rattle.farm_lines.specs.declared.reply.Reply.TheVariants as reply
use Rattle.farm_lines.specs.declared.request.Request.{Request}
use Rattle.farm_lines.specs.Asked.{asked_of}
use Rattle.farm_lines.specs.Reply.{error_reply, reply_text}
use Rattle.farm_lines.specs.Request.{RequestError, request_of}
use Rattle.farm_lines.specs.Transcript.{Answered, Mark, Plain, answer_to, asked_answer, only_reply, request_answer, unless_memory}
use Rattle.world_law.specs.Ends.{ends_along}
use Rattle.world_law.specs.Lines.{HasCommit, mark_of}
use Rattle.world_answers.specs.declared.trial.Trial.{Trial}
use Rattle.world_answers.specs.declared.trial.TrialFault.{TrialFault}
use Rattle.world_answers.specs.declared.trial.TrialFault.TheVariants as fault
use Rattle.world_answers.specs.Trials.{AreStored, HasFurther, IsTrial, Tries, TriesLine}

-- ---- answers that are the same at the two marks of a trial

module _ (f : Farm) (answers others : Mark → Answered) (refused : Option ℕ) (plain : answers Plain ≡ others Plain)
    (at : answers (mark_of refused) ≡ others (mark_of refused)) where
  trial_as : (t : Trial) → IsTrial f others refused t → IsTrial f answers refused t
  trial_as t is =
      record {
        may = subst (λ (a : Answered). IfSome refused (HasCommit f a.entries)) (sym plain) is.may;
        farm = is.farm ∙ ap (λ (a : Answered). run_of f a.entries) (sym at);
        entries = is.entries ∙ ap (λ (a : Answered). a.entries) (sym at);
        ends = is.ends ∙ ap (λ (a : Answered). ends_along f a.entries) (sym at);
        stored = subst (λ (a : Answered). AreStored t.stored f (run_of f a.entries)) (sym at) is.stored;
        reply = is.reply ∙ ap (λ (a : Answered). reply_text a.reply) (sym at);
        further = subst (λ (a : Answered). HasFurther f a.entries refused t.further) (sym plain) is.further;
      }

  pub tries_as : (result : Result Trial TrialFault) → Tries f others refused result → Tries f answers refused result
  tries_as (Ok t) is = trial_as t is
  tries_as (Err fault.NoSuch) none = λ has. none (subst (λ (a : Answered). IfSome refused (HasCommit f a.entries)) plain has)
  tries_as (Err fault.NoMemory) none = tt

-- memory doesn't run out at the marks of a trial
calm : (refused : Option ℕ) (a : Answered) → unless_memory (mark_of refused) a ≡ a
calm None a = refl
calm (Some zero) a = refl
calm (Some (suc k)) a = refl

-- ---- lines

module _ (f : Farm) (line : List ℕ) (moment : ℕ) (refused : Option ℕ) (result : Result Trial TrialFault) where
  long_answer : nat_lt LINE_LIMIT (length line) ≡ true → (mark : Mark) → answer_to f line moment mark ≡ only_reply reply.TooLong
  unfolding answer_to
  long_answer long mark = ap (λ (b : Bool). if b then only_reply reply.TooLong else unless_memory mark (request_answer f moment mark (request_of line))) long

  short_answer : nat_lt LINE_LIMIT (length line) ≡ false → (mark : Mark)
      → answer_to f line moment mark ≡ unless_memory mark (request_answer f moment mark (request_of line))
  unfolding answer_to
  short_answer short mark = ap (λ (b : Bool). if b then only_reply reply.TooLong else unless_memory mark (request_answer f moment mark (request_of line))) short

  pub tries_long : nat_lt LINE_LIMIT (length line) ≡ true → Tries f (λ mark. only_reply reply.TooLong) refused result → TriesLine f line moment refused result
  tries_long long = tries_as f (answer_to f line moment) (λ mark. only_reply reply.TooLong) refused (long_answer long Plain)
      (long_answer long (mark_of refused)) result

  pub tries_asked : nat_lt LINE_LIMIT (length line) ≡ false → (asked : Asked) → (asks : Request) × (request_of line ≡ Ok asks) × (asked ≡ asked_of asks)
      → Tries f (λ mark. unless_memory mark (asked_answer f moment mark asked)) refused result → TriesLine f line moment refused result
  tries_asked short asked what =
      let same : (mark : Mark) → answer_to f line moment mark ≡ unless_memory mark (asked_answer f moment mark asked) =
      λ mark. short_answer short mark
      ∙ (ap (λ (read : Result Request RequestError). unless_memory mark (request_answer f moment mark read)) what.1
      ∙ ap (λ (a : Asked). unless_memory mark (asked_answer f moment mark a)) (sym what.2)) in
      tries_as f (answer_to f line moment) (λ mark. unless_memory mark (asked_answer f moment mark asked)) refused (same Plain) (same (mark_of refused)) result

  pub tries_bad : nat_lt LINE_LIMIT (length line) ≡ false → (error : RequestError) → request_of line ≡ Err error
      → Tries f (λ mark. only_reply (error_reply error)) refused result → TriesLine f line moment refused result
  tries_bad short error is =
      let same : (mark : Mark) → answer_to f line moment mark ≡ unless_memory mark (only_reply (error_reply error)) =
      λ mark. short_answer short mark ∙ ap (λ (read : Result Request RequestError). unless_memory mark (request_answer f moment mark read)) is in
      tries_as f (answer_to f line moment) (λ mark. only_reply (error_reply error)) refused (same Plain)
      (same (mark_of refused) ∙ calm refused (only_reply (error_reply error))) result
