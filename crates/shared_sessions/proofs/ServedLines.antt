-- Line by line, a session is served.
use Rattle.std.proofs.Common.{◌≡◌, ◌<◌, ◌^◌, ℕ, List, [], ◌∷◌, ◌++◌, refl, sym, ap, ◌∙◌, subst, Option, Ok, append_assoc, append-nil, inl, inr}
use Rattle.std.specs.List.{All}
use Rattle.std.proofs.lemmas.List.{map-append}
use Rattle.std.proofs.lemmas.List.Elements.{All-nil, All-push}
use Rattle.cue_io.specs.History.{Continues, HasGiven, HasGiven-first, HasGiven-new}
use Rattle.cue_io.specs.Input.{Takes}
use Rattle.cue_io.specs.Reader.{Held, Given, Whole, Long, AtEnd, new_reader}
use Rattle.farm_lines.specs.declared.limits.TheConstants.{LINE_LIMIT}
use Rattle.line_exchanges.proofs.Moves.{last_lines, stands}
use Rattle.line_exchanges.specs.Calls.{HasLines}
use Rattle.line_exchanges.specs.declared.exchanged.Exchanged.{Exchanged}
use Rattle.line_exchanges.specs.declared.exchanged.Exchanged.TheVariants as exchanged
use Rattle.shared_lines.specs.line_answers.specs.booking_recorder.specs.Passing.{Passing}
use Rattle.shared_sessions.specs.Sessions.{HasReplies, HasServed, ServedCall, ServedLine, ServesLine, Session, lines_of, moments_of, replies_of}
use Rattle.shared_sessions.specs.Steps.{Answers, IsAnswered, IsExchange, IsUnanswered}

-- ---- one line more

session_push : (v : Passing) (ls : List ServedLine) (u : Passing) (l : ServedLine) (w : Passing) → Session v ls u → ServesLine u l w → Session v (ls ++ l ∷ []) w
session_push v [] u l w is serves = (w, subst (λ (p : Passing). ServesLine p l w) (sym is) serves, refl)
session_push v (k ∷ ls) u l w session serves = (session.0, session.1, session_push session.0 ls u l w session.2 serves)

replies_of-append : (ls : List ServedLine) (l : ServedLine) → replies_of (ls ++ l ∷ []) ≡ replies_of ls ++ l.reply
replies_of-append [] l = append-nil l.reply
replies_of-append (k ∷ ls) l = ap (λ (bytes : List ℕ). k.reply ++ bytes) (replies_of-append ls l) ∙ sym (append_assoc k.reply (replies_of ls) l.reply)

-- the lines so far are those that the reader gave of the bytes taken, each was answered, and the bytes written are their replies
pub record IsServing (v : Passing) (call : ServedCall) (w : Passing) (reader : Held) (unread : Option (List ℕ)) : Type 0 where
  pub replies : call.written ≡ replies_of call.exchanges
  pub moments : call.readings ≡ moments_of call.exchanges
  pub within : All (λ (l : ServedLine). l.moment < 2 ^ 64) call.exchanges
  pub session : Session v call.exchanges w
  pub given : HasGiven LINE_LIMIT call.taken (lines_of call.exchanges) reader unread

-- before the first one
pub serving_none : (v : Passing) (reader : Held) (left : Option (List ℕ)) → reader ≡ new_reader LINE_LIMIT
    → IsServing v (record { taken = []; written = []; readings = []; exchanges = [] }) v reader left
serving_none v reader left is = record {
  replies = refl;
  moments = refl;
  within = All-nil (λ (l : ServedLine). l.moment < 2 ^ 64);
  session = refl;
  given = subst (λ (held : Held). HasGiven LINE_LIMIT [] [] held left) (sym is) (HasGiven-new LINE_LIMIT left);
}

-- the line that was given, and that it was answered
record IsTaken (taken : List ℕ) (lines : List (List ℕ)) (reader : Held) (left : Option (List ℕ)) (v : Passing) (moment : ℕ) (reply : List ℕ) (w : Passing) : Type 0 where
  line : List ℕ
  given : HasGiven LINE_LIMIT taken (lines ++ line ∷ []) reader left
  serves : ServesLine v (record { line = line; moment = moment; reply = reply }) w

taken_of : (given : Given) (taken : List ℕ) (lines : List (List ℕ)) (reader : Held) (left : Option (List ℕ)) (v : Passing) (moment : ℕ) (reply : List ℕ) (w : Passing)
    → Continues LINE_LIMIT taken lines (Ok given) reader left → Answers given v moment reply w → IsTaken taken lines reader left v moment reply w
taken_of (Whole line) taken lines reader left v moment reply w continues answers =
    record { line = line; given = continues.1; serves = inr (record { within = continues.0; answers = answers }) }
taken_of Long taken lines reader left v moment reply w continues answers =
    record { line = continues.0; given = continues.2; serves = inl (record { long = continues.1; told = answers.1; same = answers.0 }) }
taken_of AtEnd taken lines reader left v moment reply w continues answers = absurd answers

-- one line more: what was written of its reply, and what wasn't, is its text
serving_more : (v : Passing) (call : ServedCall) (u w : Passing) (reader new : Held) (left left' : Option (List ℕ)) (taken' : List ℕ) (given : Given) (wrote unwritten s : List ℕ)
    → IsServing v call u reader left → Continues LINE_LIMIT taken' (lines_of call.exchanges) (Ok given) new left' → IsAnswered u w s given wrote unwritten
    → (l : ServedLine)
    × IsServing v (record { taken = taken'; written = call.written ++ (wrote ++ unwritten); readings = call.readings ++ s; exchanges = call.exchanges ++ l ∷ [] }) w new left'
    × (wrote ++ unwritten ≡ l.reply)
serving_more v call u w reader new left left' taken' given wrote unwritten s serving continues answered =
    let found = taken_of given taken' (lines_of call.exchanges) new left' u answered.moment answered.reply w continues answered.answers in
    let l : ServedLine = record { line = found.line; moment = answered.moment; reply = answered.reply } in (
      l,
      record {
        replies = ap (λ (bytes : List ℕ). call.written ++ bytes) answered.written ∙ ap (λ (bytes : List ℕ). bytes ++ answered.reply) serving.replies
            ∙ sym (replies_of-append call.exchanges l);
        moments = ap (λ (seen : List ℕ). call.readings ++ seen) answered.read ∙ ap (λ (seen : List ℕ). seen ++ answered.moment ∷ []) serving.moments
            ∙ sym (map-append (λ (k : ServedLine). k.moment) call.exchanges (l ∷ []));
        within = All-push (λ (k : ServedLine). k.moment < 2 ^ 64) call.exchanges l serving.within answered.moment_within;
        session = session_push v call.exchanges u l w serving.session found.serves;
        given = subst (λ (lines : List (List ℕ)). HasGiven LINE_LIMIT taken' lines new left') (sym (map-append (λ (k : ServedLine). k.line) call.exchanges (l ∷ []))) found.given;
      },
      answered.written,
    )

-- ---- a step of the loop

module _ (v : Passing) (call : ServedCall) (u w : Passing) (reader new : Held) (left left' : Option (List ℕ)) (took wrote s : List ℕ)
    (serving : IsServing v call u reader left) (takes : Takes left left' took) where
  -- what is taken, written and read after the step, with these lines
  abbrev more_of : List ServedLine → ServedCall
  more_of lines = record { taken = call.taken ++ took; written = call.written ++ wrote; readings = call.readings ++ s; exchanges = lines }

  -- the line was answered
  pub serving_went : IsExchange exchanged.Went reader new left' u w took wrote s → (lines : List ServedLine) × IsServing v (more_of lines) w new left'
  serving_went step =
      let more = serving_more v call u w reader new left left' (call.taken ++ took) step.exchanges.0 wrote [] s serving
      (stands LINE_LIMIT call.taken (lines_of call.exchanges) reader new left left' took wrote _ _ serving.given takes (Ok step.exchanges.0) exchanged.Went step step.exchanges.1)
      step.exchanges.2 in
      let lines : List ServedLine = call.exchanges ++ more.0 ∷ [] in (
        lines,
        subst (λ (bytes : List ℕ). IsServing v (record { taken = call.taken ++ took; written = call.written ++ bytes; readings = call.readings ++ s; exchanges = lines }) w new left')
            (append-nil wrote) more.1,
      )

  -- nothing was written or read in a step without a line, and the pass is as before
  quiet : (result : Exchanged) → HasLines result (call.taken ++ took) (lines_of call.exchanges) left'
      → (call.written ++ wrote ≡ replies_of call.exchanges → HasReplies result call.exchanges (call.written ++ wrote)) → IsUnanswered u w s wrote
      → HasServed result v (more_of call.exchanges) w left'
  quiet result lines replies none = record {
    lines = lines;
    replies = replies (ap (λ (bytes : List ℕ). call.written ++ bytes) none.none_written ∙ append-nil call.written ∙ serving.replies);
    moments = ap (λ (seen : List ℕ). call.readings ++ seen) none.none_read ∙ append-nil call.readings ∙ serving.moments;
    within = serving.within;
    session = subst (λ (p : Passing). Session v call.exchanges p) (sym none.same) serving.session;
  }

  -- the session ended
  pub served_ended : (result : Exchanged) → (result ≡ exchanged.Went → ⊥) → IsExchange result reader new left' u w took wrote s
      → (lines : List ServedLine) × HasServed result v (more_of lines) w left'
  served_ended exchanged.Went ends step = absurd (ends refl)
  served_ended exchanged.End ends step =
      let at = last_lines LINE_LIMIT call.taken (lines_of call.exchanges) reader new left left' took wrote _ _ serving.given takes exchanged.End tt step in
      (call.exchanges, quiet exchanged.End at.0 (λ same. same) at.1)
  served_ended exchanged.Read ends step =
      let at = last_lines LINE_LIMIT call.taken (lines_of call.exchanges) reader new left left' took wrote _ _ serving.given takes exchanged.Read tt step in
      (call.exchanges, quiet exchanged.Read at.0 (λ same. same) at.1)
  served_ended exchanged.Spent ends step =
      let at = last_lines LINE_LIMIT call.taken (lines_of call.exchanges) reader new left left' took wrote _ _ serving.given takes exchanged.Spent tt step in
      (call.exchanges, quiet exchanged.Spent at.0 (λ same. same) at.1)
  served_ended exchanged.Write ends step =
      let given = step.exchanges.0 in
      let unwritten = step.exchanges.1 in
      let more = serving_more v call u w reader new left left' (call.taken ++ took) given wrote unwritten s serving
      (stands LINE_LIMIT call.taken (lines_of call.exchanges) reader new left left' took wrote _ _ serving.given takes (Ok given) exchanged.Write step step.exchanges.2)
      step.exchanges.4 in (
        call.exchanges ++ more.0 ∷ [],
        record {
          lines = HasGiven-first LINE_LIMIT (call.taken ++ took) (lines_of (call.exchanges ++ more.0 ∷ [])) new left' more.1.given;
          replies = record {
            before = call.exchanges;
            last = more.0;
            part = wrote;
            unwritten = unwritten;
            all = refl;
            some = step.exchanges.3;
            reply = more.2;
            written = ap (λ (bytes : List ℕ). bytes ++ wrote) serving.replies;
          };
          moments = more.1.moments;
          within = more.1.within;
          session = more.1.session;
        },
      )
