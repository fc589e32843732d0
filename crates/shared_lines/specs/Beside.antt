-- The answer to one line of a session that stands beside others.
use Rattle.std.specs.Prelude.{◌≡◌, ◌⊎◌, ℕ, List, [], ◌∷◌, ◌++◌, Result, Ok, Err}
use Rattle.farm_types.specs.declared.entry.Entry.{Entry}
use Rattle.farm_lines.specs.declared.asked.Asked.{Asked}
use Rattle.farm_lines.specs.declared.asked.Asked.TheVariants as asked
use Rattle.farm_lines.specs.declared.reply.Reply.TheVariants as reply
use Rattle.farm_lines.specs.declared.report.Report.{Report}
use Rattle.farm_lines.specs.declared.request.Request.{Request}
use Rattle.farm_lines.specs.Asked.{asked_of, entry_at, heard_entry}
use Rattle.farm_lines.specs.Reply.{error_reply, reply_text}
use Rattle.farm_lines.specs.Request.{RequestError, request_of}
use Rattle.line_answers.specs.booking_recorder.specs.Passing.{Passing}
use Rattle.line_answers.specs.Lines.{IsLineOf}
use Rattle.shared_lines.specs.Answered.{IsEnteredAt, IsListedAt, IsUnheardAt}
use Rattle.shared_lines.specs.Hindered.{IsHinderedAt}
use Rattle.shared_lines.specs.Reported.{IsReportedAt}

-- by its form the line is no request, and its first fault is told; or memory ran out for it
abbrev pub TellsFault : Result Request RequestError → List ℕ → Type 0
TellsFault (Err error) text = IsLineOf (error_reply error) text
TellsFault (Ok asks) text = text ≡ reply_text reply.NoMemory ++ 10 ∷ []

-- an entry was answered, or hindered
abbrev pub AnswersEntryBeside : Passing → Entry → List ℕ → Passing → Type 0
AnswersEntryBeside v e text w = IsEnteredAt v e text w ⊎ IsHinderedAt v e text w

-- a report was refused, or memory ran out, or the store failed; or it was hindered; or it was recorded
abbrev pub AnswersReportBeside : Passing → Report → ℕ → List ℕ → Passing → Type 0
AnswersReportBeside v report moment text w =
    IsUnheardAt v report moment text w ⊎ (IsHinderedAt v (heard_entry report moment) text w ⊎ IsReportedAt v report moment text w)

-- what is asked was answered
abbrev pub AnswersAskedBeside : Passing → Asked → ℕ → List ℕ → Passing → Type 0
AnswersAskedBeside v (asked.Report report) moment text w = AnswersReportBeside v report moment text w
AnswersAskedBeside v (asked.Act does) moment text w = AnswersEntryBeside v (entry_at moment does) text w
AnswersAskedBeside v (asked.List query) moment text w = IsListedAt v query moment text w

-- The line was replied to with this text at the moment, and the pass went from what it was to what it is: the line told of its form alone, and the pass
-- saw nothing; or it asks something, which was answered.
abbrev pub AnswersBeside : Passing → List ℕ → ℕ → List ℕ → Passing → Type 0
AnswersBeside v line moment text w =
    ((w ≡ v) × TellsFault (request_of line) text)
    ⊎ ((asks : Request) × (request_of line ≡ Ok asks) × AnswersAskedBeside v (asked_of asks) moment text w)
