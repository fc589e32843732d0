-- Exchange by exchange, a session is the transcript of its lines.
use Rattle.std.proofs.Common.{◌≡◌, ◌<◌, ◌^◌, ◌+◌, ℕ, Bool, true≢false, cond, List, [], ◌∷◌, ◌++◌, refl, sym, ap, ◌∙◌, subst, Option, Ok, append_assoc, append-nil, length, length-append}
use Rattle.std.proofs.lemmas.Bool.{lt-ltb}
use Rattle.std.proofs.lemmas.List.{map-append}
use Rattle.std.proofs.lemmas.List.Elements.{All-push}
use Rattle.cue_io.specs.History.{HasGiven, HasGiven-first, Continues}
use Rattle.cue_io.specs.Input.{Takes}
use Rattle.cue_io.specs.Reader.{Held, Given, Whole, Long, AtEnd}
use Rattle.farm_types.specs.declared.entry.Entry.{Entry}
use Rattle.farm_types.specs.Farm.{Farm}
use Rattle.farm_lines.specs.declared.reply.Reply.TheVariants.{TooLong}
use Rattle.farm_lines.specs.Request.{request_of}
use Rattle.farm_lines.specs.Reply.{reply_text}
use Rattle.farm_lines.specs.Transcript.{Mark, Plain, Exchange, answer_to, answer_at, farm_next, farm_after, is_store_mark, only_reply, request_answer, unless_memory, transcript, lines_in, moments_in}
use Rattle.line_exchanges.proofs.Moves.{last_lines, stands}
use Rattle.line_exchanges.specs.declared.exchanged.Exchanged.{Exchanged}
use Rattle.line_exchanges.specs.declared.exchanged.Exchanged.TheVariants as exchanged
use Rattle.farm_load.specs.line_answers.specs.LineAnswers.{Going, IsAnswer, IsMarked}
use Rattle.farm_load.specs.recorder.specs.Recording.{ChangesNone}
use Rattle.line_exchanges.specs.Calls.{HasLines}
use Rattle.session.specs.Sessions.{Answers, AreMarked, Call, EndsSession, HasAnswered, HasReplies, HasServed, IsExchange, IsNoExchange, IsStep, MayStand, StaysAt, entries_by}
use Rattle.farm_lines.specs.declared.limits.TheConstants.{LINE_LIMIT}

-- ---- one exchange more

transcript-append : (f : Farm) (ts : List Exchange) (t : Exchange) → transcript f (ts ++ t ∷ []) ≡ transcript f ts ++ (reply_text (answer_at (farm_after f ts) t).reply ++ 10 ∷ [])
transcript-append f [] t = refl
transcript-append f (u ∷ ts) t =
    ap (λ bytes. reply_text (answer_at f u).reply ++ 10 ∷ bytes) (transcript-append (farm_next f u) ts t)
    ∙ sym (append_assoc (reply_text (answer_at f u).reply) (10 ∷ transcript (farm_next f u) ts) (reply_text (answer_at (farm_after (farm_next f u) ts) t).reply ++ 10 ∷ []))

farm_after-append : (f : Farm) (ts : List Exchange) (t : Exchange) → farm_after f (ts ++ t ∷ []) ≡ farm_next (farm_after f ts) t
farm_after-append f [] t = refl
farm_after-append f (u ∷ ts) t = farm_after-append (farm_next f u) ts t

lines_in-append : (ts : List Exchange) (t : Exchange) → lines_in (ts ++ t ∷ []) ≡ lines_in ts ++ t.line ∷ []
lines_in-append ts t = map-append (λ u. u.line) ts (t ∷ [])

moments_in-append : (ts : List Exchange) (t : Exchange) → moments_in (ts ++ t ∷ []) ≡ moments_in ts ++ t.moment ∷ []
moments_in-append ts t = map-append (λ u. u.moment) ts (t ∷ [])

-- ---- marks of the store

are_marked-append : (f : Farm) (ts : List Exchange) (t : Exchange) → AreMarked f ts → IsMarked (farm_after f ts) t.line t.moment t.mark → AreMarked f (ts ++ t ∷ [])
are_marked-append f [] t marked may = (may, tt)
are_marked-append f (u ∷ ts) t marked may = (marked.0, are_marked-append (farm_next f u) ts t marked.1 may)

-- ---- an exchange in a session

-- how the keeper went on over a line, of which the mark is this one
record StaysOn (f : Farm) (t : Exchange) (goes : Going) (same : Type 0) : Type 0 where
  keeper : goes (answer_to f t.line t.moment Plain).entries (answer_at f t).entries (is_store_mark t.mark)
  stays : ChangesNone f (answer_to f t.line t.moment Plain).entries → same

-- what the keeper did over one exchange more, after those before
abbrev pub GoesOnBy : Farm → Farm → Going → Type 0 → (List Exchange → Type 0) → (List Exchange → Type 0) → Type 0
GoesOnBy first f goes same before now =
    (ts : List Exchange) (t : Exchange) → before ts → f ≡ farm_after first ts
    → goes (answer_to f t.line t.moment Plain).entries (answer_at f t).entries (is_store_mark t.mark)
    → (ChangesNone f (answer_to f t.line t.moment Plain).entries → same) → now (ts ++ t ∷ [])

-- the farm, the text, the reading, the mark and the keeper of one exchange more
answered_more : (first : Farm) (exchanges : List Exchange) (farm : Farm) (wrote seen : List ℕ) (t : Exchange) (after : Farm) (reply : List ℕ) (goes : Going) (same : Type 0)
    (before now : List Exchange → Type 0) → GoesOnBy first farm goes same before now → HasAnswered first exchanges farm wrote seen before → t.moment < 2 ^ 64
    → IsAnswer farm (answer_at farm t) after reply → IsMarked farm t.line t.moment t.mark → StaysOn farm t goes same
    → HasAnswered first (exchanges ++ t ∷ []) after (wrote ++ reply) (seen ++ t.moment ∷ []) now
answered_more first exchanges farm wrote seen t after reply goes same before now on answered low answer may stays = record {
  farm_is = answer.farm ∙ ap (λ g. farm_next g t) answered.farm_is ∙ sym (farm_after-append first exchanges t);
  replies = ap (λ bytes. bytes ++ reply) answered.replies
      ∙ ap (λ bytes. transcript first exchanges ++ bytes) (answer.text ∙ ap (λ g. reply_text (answer_at g t).reply ++ 10 ∷ []) answered.farm_is)
      ∙ sym (transcript-append first exchanges t);
  moments = ap (λ moments. moments ++ t.moment ∷ []) answered.moments ∙ sym (moments_in-append exchanges t);
  within = All-push (λ (t : Exchange). t.moment < 2 ^ 64) exchanges t answered.within low;
  marked = are_marked-append first exchanges t answered.marked (subst (λ (g : Farm). IsMarked g t.line t.moment t.mark) answered.farm_is may);
  keeper = on exchanges t answered.keeper answered.farm_is stays.keeper stays.stays;
}

-- the line that was given, its answer, its mark, how the keeper went on, and that it is as before where the line asks for nothing that changes a row
record IsLineGiven (taken : List ℕ) (lines : List (List ℕ)) (reader : Held) (left : Option (List ℕ)) (old new : Farm) (moment : ℕ) (mark : Mark) (reply : List ℕ) (goes : Going)
    (same : Type 0) : Type 0 where
  line : List ℕ
  given : HasGiven LINE_LIMIT taken (lines ++ line ∷ []) reader left
  answer : IsAnswer old (answer_to old line moment mark) new reply
  may_stand : IsMarked old line moment mark
  keeper : goes (answer_to old line moment Plain).entries (answer_to old line moment mark).entries (is_store_mark mark)
  stays : ChangesNone old (answer_to old line moment Plain).entries → same

-- a line that is too long makes no entry
none_of_long : (f : Farm) (line : List ℕ) (moment : ℕ) (mark : Mark) → LINE_LIMIT < length line → (answer_to f line moment mark).entries ≡ []
unfolding answer_to
none_of_long f line moment mark long =
    ap (λ (b : Bool). (cond b (only_reply TooLong) (unless_memory mark (request_answer f moment mark (request_of line)))).entries) (lt-ltb LINE_LIMIT (length line) long)

line_of_exchange : (given : Given) (taken : List ℕ) (lines : List (List ℕ)) (reader : Held) (left : Option (List ℕ)) (old new : Farm) (moment : ℕ) (mark : Mark) (reply : List ℕ)
    (goes : Going) (same : Type 0) → Continues LINE_LIMIT taken lines (Ok given) reader left → Answers given old moment mark new reply → MayStand given old moment mark
    → goes (entries_by given old moment Plain) (entries_by given old moment mark) (is_store_mark mark) → StaysAt given old moment same
    → IsLineGiven taken lines reader left old new moment mark reply goes same
line_of_exchange (Whole line) taken lines reader left old new moment mark reply goes same continues answers may keeper stays =
    record { line = line; given = continues.1; answer = answers; may_stand = may; keeper = keeper; stays = stays }
line_of_exchange Long taken lines reader left old new moment mark reply goes same continues answers may keeper stays =
    let line = continues.0 in
    let nothing : (m : Mark) → (answer_to old line moment m).entries ≡ [] = λ m. none_of_long old line moment m continues.1 in
    record {
      line = line;
      given = continues.2;
      answer = answers line continues.1;
      may_stand = λ is. absurd (true≢false (sym is ∙ may));
      keeper =
          subst (λ (es : List Entry). goes es (answer_to old line moment mark).entries (is_store_mark mark)) (sym (nothing Plain))
          (subst (λ (es : List Entry). goes [] es (is_store_mark mark)) (sym (nothing mark)) keeper);
      stays = λ none. stays;
    }
line_of_exchange AtEnd taken lines reader left old new moment mark reply goes same continues answers may keeper stays = absurd answers

-- one exchange more: what was written of its reply, and what wasn't, is its text
served_more : (first : Farm) (call : Call) (farm after : Farm) (reader new : Held) (left left' : Option (List ℕ)) (taken' : List ℕ)
    (given : Given) (w u s : List ℕ) (goes : Going) (same : Type 0) (before now : List Exchange → Type 0) → GoesOnBy first farm goes same before now
    → HasServed first call farm reader left before → Continues LINE_LIMIT taken' (lines_in call.exchanges) (Ok given) new left'
    → IsExchange given farm after w u s goes same
    → (t : Exchange) × HasServed first (record { taken = taken'; written = call.written ++ (w ++ u); readings = call.readings ++ s; exchanges = call.exchanges ++ t ∷ [] }) after new left' now
    × (w ++ u ≡ reply_text (answer_at (farm_after first call.exchanges) t).reply ++ 10 ∷ [])
served_more first call farm after reader new left left' taken' given w u s goes same before now on served continues exchange =
    let found = line_of_exchange given taken' (lines_in call.exchanges) new left' farm after exchange.moment exchange.mark exchange.reply goes same continues exchange.answers
    exchange.may_stand exchange.keeper exchange.stays in
    let t : Exchange = record { line = found.line; moment = exchange.moment; mark = exchange.mark } in
    let answered : HasAnswered first (call.exchanges ++ t ∷ []) after (call.written ++ exchange.reply) (call.readings ++ exchange.moment ∷ []) now
    = answered_more first call.exchanges farm call.written call.readings t after exchange.reply goes same before now on served.answered exchange.moment_within found.answer found.may_stand
    (record { keeper = found.keeper; stays = found.stays }) in (
      t,
      record {
        answered = subst (λ (bytes : List ℕ). HasAnswered first (call.exchanges ++ t ∷ []) after (call.written ++ bytes) (call.readings ++ s) now)
            (sym exchange.written)
            (subst (λ (moments : List ℕ). HasAnswered first (call.exchanges ++ t ∷ []) after (call.written ++ exchange.reply) (call.readings ++ moments) now)
            (sym exchange.read) answered);
        given = subst (λ (lines : List (List ℕ)). HasGiven LINE_LIMIT taken' lines new left') (sym (lines_in-append call.exchanges t)) found.given;
      },
      exchange.written ∙ found.answer.text ∙ ap (λ g. reply_text (answer_at g t).reply ++ 10 ∷ []) served.answered.farm_is,
    )

-- ---- a step of the loop

module _ (first : Farm) (call : Call) (farm after : Farm) (reader new : Held) (left left' : Option (List ℕ)) (took w s : List ℕ) (goes : Going) (same still : Type 0)
    (before now : List Exchange → Type 0) (on : GoesOnBy first farm goes same before now) (quietly : (ts : List Exchange) → still → before ts → now ts)
    (served : HasServed first call farm reader left before) (takes : Takes left left' took) where
  -- what is taken, written and read after the step, with these exchanges
  abbrev more_of : List Exchange → Call
  more_of exchanges = record { taken = call.taken ++ took; written = call.written ++ w; readings = call.readings ++ s; exchanges = exchanges }

  -- the line was answered
  pub served_went : (step : IsStep exchanged.Went reader new left' farm after took w s goes same still)
      → (exchanges : List Exchange) × HasServed first (more_of exchanges) after new left' now × (length exchanges ≡ length call.exchanges + 1)
  served_went step =
      let more = served_more first call farm after reader new left left' (call.taken ++ took) step.exchanges.0 w [] s goes same before now on served
      (stands LINE_LIMIT call.taken (lines_in call.exchanges) reader new left left' took w _ _ served.given takes (Ok step.exchanges.0) exchanged.Went step step.exchanges.1) step.exchanges.2 in
      let exchanges : List Exchange = call.exchanges ++ more.0 ∷ [] in (
        exchanges,
        subst (λ (bytes : List ℕ). HasServed first (record { taken = call.taken ++ took; written = call.written ++ bytes; readings = call.readings ++ s; exchanges = exchanges }) after new left' now)
            (append-nil w) more.1,
        length-append call.exchanges (more.0 ∷ []),
      )

  -- nothing was written or read in a step without a line, and the farm and the keeper are as before
  quiet : (result : Exchanged) → HasLines result (call.taken ++ took) (lines_in call.exchanges) left'
      → (call.written ++ w ≡ transcript first call.exchanges → HasReplies result first call.exchanges (call.written ++ w)) → IsNoExchange farm after w s still
      → EndsSession result first after (more_of call.exchanges) left' now
  quiet result lines replies none = record {
    lines = lines;
    replies = replies (ap (λ bytes. call.written ++ bytes) none.none_written ∙ append-nil call.written ∙ served.answered.replies);
    moments = ap (λ moments. call.readings ++ moments) none.none_read ∙ append-nil call.readings ∙ served.answered.moments;
    within = served.answered.within;
    farm_is = none.farm_same ∙ served.answered.farm_is;
    marked = served.answered.marked;
    keeper = quietly call.exchanges none.recorder_same served.answered.keeper;
  }

  -- the session ended
  pub served_ended : (result : Exchanged) → (result ≡ exchanged.Went → ⊥) → IsStep result reader new left' farm after took w s goes same still
      → (exchanges : List Exchange) × EndsSession result first after (more_of exchanges) left' now
  served_ended exchanged.Went ends step = absurd (ends refl)
  served_ended exchanged.End ends step =
      let at = last_lines LINE_LIMIT call.taken (lines_in call.exchanges) reader new left left' took w _ _ served.given takes exchanged.End tt step in
      (call.exchanges, quiet exchanged.End at.0 (λ same. same) at.1)
  served_ended exchanged.Read ends step =
      let at = last_lines LINE_LIMIT call.taken (lines_in call.exchanges) reader new left left' took w _ _ served.given takes exchanged.Read tt step in
      (call.exchanges, quiet exchanged.Read at.0 (λ same. same) at.1)
  served_ended exchanged.Spent ends step =
      let at = last_lines LINE_LIMIT call.taken (lines_in call.exchanges) reader new left left' took w _ _ served.given takes exchanged.Spent tt step in
      (call.exchanges, quiet exchanged.Spent at.0 (λ same. same) at.1)
  served_ended exchanged.Write ends step =
      let given = step.exchanges.0 in
      let unwritten = step.exchanges.1 in
      let more = served_more first call farm after reader new left left' (call.taken ++ took) given w unwritten s goes same before now on served
      (stands LINE_LIMIT call.taken (lines_in call.exchanges) reader new left left' took w _ _ served.given takes (Ok given) exchanged.Write step step.exchanges.2) step.exchanges.4 in (
        call.exchanges ++ more.0 ∷ [],
        record {
          lines = HasGiven-first LINE_LIMIT (call.taken ++ took) (lines_in (call.exchanges ++ more.0 ∷ [])) new left' more.1.given;
          replies = record {
            before = call.exchanges;
            last = more.0;
            part = w;
            unwritten = unwritten;
            all = refl;
            some = step.exchanges.3;
            reply = more.2;
            written = ap (λ bytes. bytes ++ w) served.answered.replies;
          };
          moments = more.1.answered.moments;
          within = more.1.answered.within;
          farm_is = more.1.answered.farm_is;
          marked = more.1.answered.marked;
          keeper = more.1.answered.keeper;
        },
      )
