-- What a line asks, its fault, and a list, beside others.
use Rattle.std.proofs.Common.{◌≡◌, ℕ, false, List, [], inl, inr, refl, subst, sym}
use Rattle.std.specs.Prelude.{Result, Ok, Err}
use Rattle.farm_types.specs.Farm.{Farm}
use Rattle.farm_lines.specs.declared.asked.Asked.{Asked}
use Rattle.farm_lines.specs.declared.asked.Asked.TheVariants as asked
use Rattle.farm_lines.specs.declared.query.Query.{Query}
use Rattle.farm_lines.specs.declared.request.Request.{Request}
use Rattle.farm_lines.specs.declared.request.RequestFault.{RequestFault}
use Rattle.farm_lines.specs.declared.request.RequestFault.TheVariants as fault
use Rattle.farm_lines.specs.Lists.{page_listed}
use Rattle.farm_lines.specs.Request.{RequestError}
use Rattle.farm_lines.specs.Transcript.{Memory, Plain, list_reply}
use Rattle.booking_rule.specs.Kept.{farm_in}
use Rattle.report_codec.specs.Reads.{Fails}
use Rattle.line_answers.specs.booking_recorder.specs.Passing.{Passing}
use Rattle.line_answers.specs.declared.reply_line.ReplyLine.{ReplyLine}
use Rattle.line_answers.specs.Asking.{Asks}
use Rattle.line_answers.specs.LineAnswers.{AnswersAsked, fault_reply}
use Rattle.line_answers.specs.Lines.{IsLineOf, shown}
use Rattle.shared_rounds.specs.shared_bot.specs.Passes.{CaughtUp}
use Rattle.shared_lines.specs.Answered.{IsListedAt, TakesIn, takes_in}
use Rattle.shared_lines.specs.Beside.{AnswersAskedBeside, AnswersBeside, TellsFault}
use Rattle.shared_lines.proofs.Worked.{farm_still}

-- ---- a malformed line

faulted : (found : RequestFault) (read : Result Request RequestError) (text : List ℕ) → Fails found read → IsLineOf (fault_reply found) text
    → TellsFault read text
faulted (fault.BadLine field) read text fails line = subst (λ (r : Result Request RequestError). TellsFault r text) (sym fails) line
faulted (fault.BadRange layer why) read text fails line = subst (λ (r : Result Request RequestError). TellsFault r text) (sym fails) line
faulted (fault.BadAmount field) read text fails line = subst (λ (r : Result Request RequestError). TellsFault r text) (sym fails) line
faulted fault.NoMemory (Err error) text fails (inl line) = inr line
faulted fault.NoMemory (Err error) text fails (inr line) = inr line
faulted fault.NoMemory (Ok asks) text fails (inl line) = line
faulted fault.NoMemory (Ok asks) text fails (inr line) = line

pub unasked : (v : Passing) (line : List ℕ) (moment : ℕ) (told : ReplyLine) → Asks line (Err told) → AnswersBeside v line moment (shown told) v
unasked v line moment told asks = inl (refl, faulted asks.0 _ (shown told) asks.1 asks.2)

-- ---- what is asked

pub asked_so : (v w : Passing) (line : List ℕ) (moment : ℕ) (what : Asked) (text : List ℕ) → Asks line (Ok what)
    → AnswersAskedBeside v what moment text w → AnswersBeside v line moment text w
asked_so v w line moment what text asks answered =
    inr (asks.0, asks.1, subst (λ (a : Asked). AnswersAskedBeside v a moment text w) asks.2 answered)

pub answered_as : (v w : Passing) (moment : ℕ) (text : List ℕ) (what other : Asked) → what ≡ other → AnswersAskedBeside v other moment text w
    → AnswersAskedBeside v what moment text w
answered_as v w moment text what other is answered = subst (λ (a : Asked). AnswersAskedBeside v a moment text w) (sym is) answered

-- ---- a list

pub listed : (v w : Passing) (query : Query) (moment : ℕ) (text : List ℕ) → CaughtUp v w [] 0
    → IsLineOf (list_reply (page_listed (farm_in w.view) query)) text → IsListedAt v query moment text w
listed v w query moment text caught line = (
  caught.others,
  subst (λ (f : Farm). AnswersAsked f (asked.List query) moment (farm_in w.view) text (takes_in v caught.others w)) (sym (farm_still v w 0 caught))
      (at line),
)
  where
    takes : TakesIn v caught.others w [] false
    takes = record { caught = caught; behind = refl; room = λ full. (refl, refl) }

    at : IsLineOf (list_reply (page_listed (farm_in w.view) query)) text
        → AnswersAsked (farm_in w.view) (asked.List query) moment (farm_in w.view) text (takes_in v caught.others w)
    at (inl is) = record { mark = Plain; answer = record { farm = refl; text = is }; may_stand = refl; keeper = takes }
    at (inr is) = record { mark = Memory; answer = record { farm = refl; text = is }; may_stand = refl; keeper = takes }
