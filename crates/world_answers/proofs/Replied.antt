-- Replies where nothing is recorded, and what is asked of a request.
use Rattle.std.proofs.Common.{◌≡◌, ℕ, true, false, List, [], ◌∷◌, ◌++◌, length, Option, None, Some, Result, Err, refl, sym, subst, inl, inr}
use Rattle.std.specs.Prelude.{IfSome, IsErrAnd, is_some, nat_lt}
use Rattle.std.proofs.lemmas.Bool.{false≢true}
use Rattle.std.proofs.lemmas.Result.{err_from_is_err_and}
use Rattle.farm_types.specs.declared.attempt.DoneItem.{DoneItem}
use Rattle.farm_types.specs.declared.entry.Entry.{Entry}
use Rattle.farm_types.specs.Farm.{Farm}
use Rattle.farm_lines.specs.declared.asked.Asked.{Asked}
use Rattle.farm_lines.specs.declared.limits.TheConstants.{LINE_LIMIT}
use Rattle.farm_lines.specs.declared.reply.Reply.{Reply}
use Rattle.farm_lines.specs.declared.reply.Reply.TheVariants as reply
use Rattle.farm_lines.specs.declared.request.RequestFault.{RequestFault}
use Rattle.farm_lines.specs.declared.request.RequestFault.TheVariants as request_fault
use Rattle.farm_lines.specs.Reply.{reply_text}
use Rattle.farm_lines.specs.Request as error
use Rattle.farm_lines.specs.Request.{request_of}
use Rattle.farm_lines.specs.Transcript.{Answered, Mark, asked_answer, only_reply, unless_memory}
use Rattle.report_codec.specs.Reads.{Fails}
use Rattle.line_answers.specs.LineAnswers.{fault_reply}
use Rattle.line_answers.specs.Lines.{IsLineOf}
use Rattle.world_answers.specs.declared.trial.Trial.{Trial}
use Rattle.world_answers.specs.declared.trial.TrialFault.{TrialFault}
use Rattle.world_answers.specs.declared.trial.TrialFault.TheVariants as fault
use Rattle.world_answers.specs.Trials.{IsTextOf, IsTrial, Tries, TriesLine}
use Rattle.world_answers.proofs.Tried.{tries_bad}

-- ---- a reply alone

-- where memory ran out nothing is told
pub tries_without_memory : (f : Farm) (answers : Mark → Answered) (refused : Option ℕ) (r : Result Trial TrialFault)
    → IsErrAnd r (λ why. why ≡ fault.NoMemory)
    → Tries f answers refused r
tries_without_memory f answers refused r ran_out =
    let p = err_from_is_err_and r ran_out in
    subst (Tries f answers refused) (sym p.1) (subst (λ (why : TrialFault). Tries f answers refused (Err why)) (sym p.2) tt)

-- where some commit is named, and none is there
pub some_such : (P : ℕ → Type 0) (refused : Option ℕ) → is_some refused ≡ true → ((k : ℕ) → P k → ⊥) → IfSome refused P → ⊥
some_such P None some none has = false≢true some
some_such P (Some k) some none has = none k has

abbrev pub only : Farm → List Entry → List DoneItem → List ℕ → Trial
only new entries ends text = record { farm = new; entries = entries; ends = ends; stored = false; reply = text; further = None }

-- lists of which it is known that they are empty
pub with_none : (P : Trial → Type 0) (new : Farm) (text : List ℕ) (entries : List Entry) (ends : List DoneItem) → entries ≡ [] → ends ≡ []
    → P (only new [] [] text)
    → P (only new entries ends text)
with_none P new text entries ends no_entries no_ends is =
    subst (λ (es : List Entry). P (only new es ends text)) (sym no_entries) (subst (λ (ds : List DoneItem). P (only new [] ds text)) (sym no_ends) is)

-- a reply without entries, by the text of its line
alone_text : (line text : List ℕ) (told : Reply) → IsTextOf line text → IsLineOf told line → text ≡ reply_text told
alone_text line text told is (inl as_line) = is.text told as_line
alone_text line text told is (inr memory) = absurd (is.calm memory)

alone : (f : Farm) (text : List ℕ) (told : Reply) → text ≡ reply_text told → IsTrial f (λ mark. only_reply told) None (only f [] [] text)
alone f text told is = record { may = tt; farm = refl; entries = refl; ends = refl; stored = refl; reply = is; further = tt }

pub alone_trial : (f : Farm) (refused : Option ℕ) (line text : List ℕ) (new : Farm) (t : Trial) → is_some refused ≡ false → new ≡ f → IsTextOf line text
    → t ≡ only new [] [] text → (told : Reply) → IsLineOf told line → IsTrial f (λ mark. only_reply told) refused t
alone_trial f None line text new t none same is made told is_line =
    subst (IsTrial f (λ mark. only_reply told) None) (sym made)
    (subst (λ (g : Farm). IsTrial f (λ mark. only_reply told) None (only g [] [] text)) (sym same) (alone f text told (alone_text line text told is is_line)))
alone_trial f (Some k) line text new t none same is made told is_line = absurd (false≢true (sym none))

-- ---- what is asked

pub tries_what : (f : Farm) (moment : ℕ) (refused : Option ℕ) (result : Result Trial TrialFault) (what other : Asked) → what ≡ other
    → Tries f (λ mark. unless_memory mark (asked_answer f moment mark other)) refused result
    → Tries f (λ mark. unless_memory mark (asked_answer f moment mark what)) refused result
tries_what f moment refused result what other is =
    subst (λ (a : Asked). Tries f (λ mark. unless_memory mark (asked_answer f moment mark a)) refused result) (sym is)

-- ---- a line that asks nothing

module _ (f : Farm) (line : List ℕ) (moment : ℕ) (refused : Option ℕ) (result : Result Trial TrialFault) (short : nat_lt LINE_LIMIT (length line) ≡ false)
    (text : List ℕ)
    (replies : (told : Reply) → IsLineOf told text → Tries f (λ mark. only_reply told) refused result)
    (memory : text ≡ reply_text reply.NoMemory ++ 10 ∷ [] → result ≡ Err fault.NoMemory) where
  no_memory : IsLineOf reply.NoMemory text → text ≡ reply_text reply.NoMemory ++ 10 ∷ []
  no_memory (inl is) = is
  no_memory (inr is) = is

  by_fault : (found : RequestFault) → Fails found (request_of line) → IsLineOf (fault_reply found) text → TriesLine f line moment refused result
  by_fault (request_fault.BadLine field) fails is_line =
      tries_bad f line moment refused result short (error.BadLine field) fails (replies (reply.BadLine field) is_line)
  by_fault (request_fault.BadRange layer found) fails is_line =
      tries_bad f line moment refused result short (error.BadRange layer found) fails (replies (reply.BadRange layer found) is_line)
  by_fault (request_fault.BadAmount field) fails is_line =
      tries_bad f line moment refused result short (error.BadAmount field) fails (replies (reply.BadAmount field) is_line)
  by_fault request_fault.NoMemory fails is_line = subst (TriesLine f line moment refused) (sym (memory (no_memory is_line))) tt

  pub tries_fault : (found : RequestFault) × Fails found (request_of line) × IsLineOf (fault_reply found) text → TriesLine f line moment refused result
  tries_fault fails = by_fault fails.0 fails.1 fails.2
