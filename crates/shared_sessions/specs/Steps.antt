-- One line of a session, as it comes from the reader.
use Rattle.std.specs.Prelude.{◌≡◌, ◌^◌, ◌<◌, ◌++◌, ◌∷◌, [], ℕ, List, Option}
use Rattle.cue_io.specs.Reader.{Held, Given, Whole, Long, AtEnd}
use Rattle.farm_lines.specs.declared.reply.Reply.TheVariants as reply
use Rattle.farm_lines.specs.Reply.{reply_text}
use Rattle.line_exchanges.specs.declared.exchanged.Exchanged.{Exchanged}
use Rattle.line_exchanges.specs.Exchanges.{IsStepOf}
use Rattle.shared_lines.specs.Beside.{AnswersBeside}
use Rattle.shared_lines.specs.line_answers.specs.booking_recorder.specs.Passing.{Passing}

-- what the reader gave is answered: a whole line beside others, and one that is too long by that
abbrev pub Answers : Given → Passing → ℕ → List ℕ → Passing → Type 0
Answers (Whole line) v moment text w = AnswersBeside v line moment text w
Answers Long v moment text w = (w ≡ v) × (text ≡ reply_text reply.TooLong ++ 10 ∷ [])
Answers AtEnd v moment text w = ⊥

-- it was answered with the clock's reading, a number of 64 bits; of the reply's text this was written, and this wasn't
pub record IsAnswered (v w : Passing) (seen : List ℕ) (given : Given) (wrote unwritten : List ℕ) : Type 0 where
  pub moment : ℕ
  pub reply : List ℕ
  pub moment_within : moment < 2 ^ 64
  pub read : seen ≡ moment ∷ []
  pub answers : Answers given v moment reply w
  pub written : wrote ++ unwritten ≡ reply

-- nothing was answered
pub record IsUnanswered (v w : Passing) (seen wrote : List ℕ) : Type 0 where
  pub same : w ≡ v
  pub none_written : wrote ≡ []
  pub none_read : seen ≡ []

-- one exchange: what the reader did with the bytes taken, and what was answered to what it gave
abbrev pub IsExchange : Exchanged → Held → Held → Option (List ℕ) → Passing → Passing → List ℕ → List ℕ → List ℕ → Type 0
IsExchange result old new unread v w took wrote seen = IsStepOf result old new unread took wrote (IsAnswered v w seen) (IsUnanswered v w seen wrote)
