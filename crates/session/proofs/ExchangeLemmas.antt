-- One exchange, by what the reader gave and how much of the reply was written.
use Rattle.std.proofs.Common.{◌≡◌, ℕ, ◌<◌, ◌≤◌, ◌^◌, Bool, true, false, List, [], ◌∷◌, ◌++◌, length, refl, sym, ◌∙◌, subst, Option, Result, Ok, append-nil}
use Rattle.cue_io.specs.declared.line.Line.{Line}
use Rattle.cue_io.specs.declared.line.LineFault.{LineFault}
use Rattle.cue_io.specs.Input.{IsAtEnd}
use Rattle.cue_io.specs.Reader.{Held, Given, Whole, Long, AtEnd, Goes, IsLineGiven, IsPending, given_by, lines_left}
use Rattle.farm_types.specs.declared.entry.Entry.{Entry}
use Rattle.farm_types.specs.Farm.{Farm}
use Rattle.farm_types.specs.Run.{run_of}
use Rattle.farm_lines.specs.declared.reply.Reply.TheVariants as reply
use Rattle.farm_lines.specs.Reply.{reply_text}
use Rattle.farm_lines.specs.Transcript.{Answered, Mark, Plain, answer_to, is_store_mark}
use Rattle.line_exchanges.specs.declared.exchanged.Exchanged.{Exchanged}
use Rattle.line_exchanges.specs.declared.exchanged.Exchanged.TheVariants as exchanged
use Rattle.farm_load.specs.line_answers.specs.LineAnswers.{AnswersLine, Going, IsAnswer}
use Rattle.farm_load.specs.line_answers.specs.Outcomes.{IsAnsweredFully}
use Rattle.farm_load.specs.recorder.specs.Recording.{ChangesNone}
use Rattle.line_exchanges.specs.Exchanges.{Exchanges, Sends}
use Rattle.session.specs.Sessions.{Answers, IsExchange, IsNoExchange, IsStep, MayStand, StaysAt, entries_by}

-- What was given was answered, by a mark that may stand there, and the keeper went on as the mark says.
pub record IsGivenAnswer (given : Given) (before after : Farm) (moment : ℕ) (text : List ℕ) (goes : Going) (same : Type 0) : Type 0 where
  pub mark : Mark
  pub answers : Answers given before moment mark after text
  pub may_stand : MayStand given before moment mark
  pub keeper : goes (entries_by given before moment Plain) (entries_by given before moment mark) (is_store_mark mark)
  pub stays : StaysAt given before moment same

-- a line that was given whole
pub answers_whole : (line : List ℕ) (before after : Farm) (moment : ℕ) (text : List ℕ) (goes since : Going) (same : Type 0)
    → ((all done : List Entry) (failed : Bool) → after ≡ run_of before done → goes all done failed → since all done failed) → AnswersLine before line moment after text goes
    → (ChangesNone before (answer_to before line moment Plain).entries → same) → IsGivenAnswer (Whole line) before after moment text since same
answers_whole line before after moment text goes since same on answer stays = record {
  mark = answer.mark;
  answers = answer.answer;
  may_stand = answer.may_stand;
  keeper = on _ _ _ answer.answer.farm answer.keeper;
  stays = stays;
}

-- any line that is too long
pub answers_long : (f : Farm) (moment : ℕ) (text : List ℕ) (goes : Going) (same : Type 0) → ((line : List ℕ) → IsAnsweredFully f line moment)
    → text ≡ reply_text reply.TooLong ++ 10 ∷ [] → goes [] [] false → same → IsGivenAnswer Long f f moment text goes same
answers_long f moment text goes same law e keeper still = record {
  mark = Plain;
  answers = λ line long. subst (λ (a : Answered). IsAnswer f a f text) (sym ((law line).long long Plain)) (record { farm = refl; text = e });
  may_stand = refl;
  keeper = keeper;
  stays = still;
}

-- what was given is answered, and the reply's text sent
exchange_of : (given : Given) (before after : Farm) (moment : ℕ) (text wrote unwritten : List ℕ) (goes : Going) (same : Type 0) → moment < 2 ^ 64
    → IsGivenAnswer given before after moment text goes same → wrote ++ unwritten ≡ text → IsExchange given before after wrote unwritten (moment ∷ []) goes same
exchange_of given before after moment text wrote unwritten goes same low answer sent = record {
  moment = moment;
  mark = answer.mark;
  reply = text;
  moment_within = low;
  read = refl;
  answers = answer.answers;
  may_stand = answer.may_stand;
  keeper = answer.keeper;
  stays = answer.stays;
  written = sent;
}

exchange_answered : (result : Exchanged) (answer : Result Given LineFault) (given : Given) (before after : Farm) (moment : ℕ) (text wrote : List ℕ) (goes : Going) (same still : Type 0)
    → moment < 2 ^ 64 → answer ≡ Ok given → IsGivenAnswer given before after moment text goes same → Sends result text wrote
    → Exchanges result answer wrote (λ given wrote unwritten. IsExchange given before after wrote unwritten (moment ∷ []) goes same) (IsNoExchange before after wrote (moment ∷ []) still)
exchange_answered exchanged.Went answer given before after moment text wrote goes same still low is answers sent =
    (given, is, exchange_of given before after moment text wrote [] goes same low answers (append-nil wrote ∙ sent))
exchange_answered exchanged.Write answer given before after moment text wrote goes same still low is answers sent =
    (given, sent.0, is, sent.1, exchange_of given before after moment text wrote sent.0 goes same low answers sent.2)
exchange_answered exchanged.End answer given before after moment text wrote goes same still low is answers sent = absurd sent
exchange_answered exchanged.Read answer given before after moment text wrote goes same still low is answers sent = absurd sent
exchange_answered exchanged.Spent answer given before after moment text wrote goes same still low is answers sent = absurd sent

pub step_answered : (result : Exchanged) (returned : Result Line LineFault) (given : Given) (old new : Held) (left : Option (List ℕ)) (before after : Farm)
    (took : List ℕ) (moment : ℕ) (text wrote : List ℕ) (goes : Going) (same still : Type 0) → moment < 2 ^ 64 → given_by returned ≡ Ok given → Goes old took (given_by returned) new
    → (old.ended ≡ false → new.ended ≡ true → IsAtEnd left) → IsGivenAnswer given before after moment text goes same → Sends result text wrote
    → IsStep result old new left before after took wrote (moment ∷ []) goes same still
step_answered result returned given old new left before after took moment text wrote goes same still low is moves end answers sent = record {
  answer = given_by returned;
  moves = moves;
  at_end = end;
  exchanges = exchange_answered result (given_by returned) given before after moment text wrote goes same still low is answers sent;
}

-- a line that is given whole is within the limit
pub line_fits : (returned : Result Line LineFault) (line : List ℕ) (old new : Held) (took pending : List ℕ) → given_by returned ≡ Ok (Whole line)
    → Goes old took (given_by returned) new → IsPending old pending → length line ≤ old.limit
line_fits returned line old new took pending is goes held =
    let Moved : Result Given LineFault → Type 0 = λ answer. Goes old took answer new in
    ((subst Moved is goes).leaves pending held).cuts.1

-- ---- what an exchange takes

answered_line : (given : Given) (old : Farm) (moment : ℕ) (mark : Mark) (new : Farm) (text : List ℕ) → Answers given old moment mark new text → IsLineGiven (Ok given)
answered_line (Whole line) old moment mark new text answers = tt
answered_line Long old moment mark new text answers = tt
answered_line AtEnd old moment mark new text answers = absurd answers

-- a line was given, so that the reader has fewer left to give
pub line_taken : (old new : Held) (left : Option (List ℕ)) (before after : Farm) (took wrote seen : List ℕ) (goes : Going) (same still : Type 0)
    → IsStep exchanged.Went old new left before after took wrote seen goes same still → lines_left new < lines_left old
line_taken old new left before after took wrote seen goes same still step =
    let given = step.exchanges.0 in
    let exchange = step.exchanges.2 in
    step.moves.fewer (subst IsLineGiven (sym step.exchanges.1) (answered_line given before exchange.moment exchange.mark after exchange.reply exchange.answers))
