-- One exchange, by what the reader gave and how much of the reply was written.
use Rattle.std.proofs.Common.{◌≡◌, ℕ, ◌<◌, ◌≤◌, ◌^◌, false, true, List, [], ◌∷◌, ◌++◌, length, refl, sym, ◌∙◌, subst, Option, Result, Ok, append-nil}
use Rattle.cue_io.specs.declared.line.Line.{Line}
use Rattle.cue_io.specs.declared.line.LineFault.{LineFault}
use Rattle.cue_io.specs.Input.{IsAtEnd}
use Rattle.cue_io.specs.Reader.{Held, Given, Whole, Long, AtEnd, Goes, IsLineGiven, IsPending, given_by, lines_left}
use Rattle.line_exchanges.specs.declared.exchanged.Exchanged.{Exchanged}
use Rattle.line_exchanges.specs.declared.exchanged.Exchanged.TheVariants as exchanged
use Rattle.line_exchanges.specs.Exchanges.{Exchanges, Sends}
use Rattle.shared_lines.specs.line_answers.specs.booking_recorder.specs.Passing.{Passing}
use Rattle.shared_sessions.specs.Steps.{Answers, IsAnswered, IsExchange, IsUnanswered}

-- what is given is answered, and the reply's text sent
answered_of : (given : Given) (v w : Passing) (moment : ℕ) (text wrote unwritten : List ℕ) → moment < 2 ^ 64 → Answers given v moment text w → wrote ++ unwritten ≡ text
    → IsAnswered v w (moment ∷ []) given wrote unwritten
answered_of given v w moment text wrote unwritten low answers sent = record {
  moment = moment;
  reply = text;
  moment_within = low;
  read = refl;
  answers = answers;
  written = sent;
}

exchange_answered : (result : Exchanged) (answer : Result Given LineFault) (given : Given) (v w : Passing) (moment : ℕ) (text wrote : List ℕ) → moment < 2 ^ 64
    → answer ≡ Ok given → Answers given v moment text w → Sends result text wrote
    → Exchanges result answer wrote (IsAnswered v w (moment ∷ [])) (IsUnanswered v w (moment ∷ []) wrote)
exchange_answered exchanged.Went answer given v w moment text wrote low is answers sent =
    (given, is, answered_of given v w moment text wrote [] low answers (append-nil wrote ∙ sent))
exchange_answered exchanged.Write answer given v w moment text wrote low is answers sent =
    (given, sent.0, is, sent.1, answered_of given v w moment text wrote sent.0 low answers sent.2)
exchange_answered exchanged.End answer given v w moment text wrote low is answers sent = absurd sent
exchange_answered exchanged.Read answer given v w moment text wrote low is answers sent = absurd sent
exchange_answered exchanged.Spent answer given v w moment text wrote low is answers sent = absurd sent

pub step_answered : (result : Exchanged) (returned : Result Line LineFault) (given : Given) (old new : Held) (left : Option (List ℕ)) (v w : Passing)
    (took : List ℕ) (moment : ℕ) (text wrote : List ℕ) → moment < 2 ^ 64 → given_by returned ≡ Ok given → Goes old took (given_by returned) new
    → (old.ended ≡ false → new.ended ≡ true → IsAtEnd left) → Answers given v moment text w → Sends result text wrote
    → IsExchange result old new left v w took wrote (moment ∷ [])
step_answered result returned given old new left v w took moment text wrote low is moves end answers sent = record {
  answer = given_by returned;
  moves = moves;
  at_end = end;
  exchanges = exchange_answered result (given_by returned) given v w moment text wrote low is answers sent;
}

-- a line that is given whole is within the limit
pub line_fits : (returned : Result Line LineFault) (line : List ℕ) (old new : Held) (took pending : List ℕ) → given_by returned ≡ Ok (Whole line)
    → Goes old took (given_by returned) new → IsPending old pending → length line ≤ old.limit
line_fits returned line old new took pending is goes held =
    let Moved : Result Given LineFault → Type 0 = λ answer. Goes old took answer new in
    ((subst Moved is goes).leaves pending held).cuts.1

answered_line : (given : Given) (v : Passing) (moment : ℕ) (w : Passing) (text : List ℕ) → Answers given v moment text w → IsLineGiven (Ok given)
answered_line (Whole line) v moment w text answers = tt
answered_line Long v moment w text answers = tt
answered_line AtEnd v moment w text answers = absurd answers

-- a line was given, so that the reader has fewer left to give
pub line_taken : (old new : Held) (left : Option (List ℕ)) (v w : Passing) (took wrote seen : List ℕ)
    → IsExchange exchanged.Went old new left v w took wrote seen → lines_left new < lines_left old
line_taken old new left v w took wrote seen step =
    let given = step.exchanges.0 in
    let answered = step.exchanges.2 in
    step.moves.fewer (subst IsLineGiven (sym step.exchanges.1) (answered_line given v answered.moment w answered.reply answered.answers))
