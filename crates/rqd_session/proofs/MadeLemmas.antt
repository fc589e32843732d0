-- What one round does, by what its parts did.
use Rattle.std.proofs.Common.{◌≡◌, ◌<◌, ◌≤◌, inl, inr, ℕ, List, [], ◌∷◌, ◌++◌, arith, refl, sym, ap, ◌∙◌, subst, length, map, take, nat_lt, Option, None, Some, Result, Ok, Err, length-append}
use Rattle.std.specs.Prelude.{IsErrAnd, ⊤}
use Rattle.std.proofs.lemmas.Result.{err_from_is_err_and}
use Rattle.std.proofs.lemmas.Bool.{cond-true, cond-false, le-ltb, lt-ltb}
use Rattle.cue_io.specs.Output.{Adds, Adds-none}
use Rattle.cue_io.specs.Reader.{Given, Whole, Long, AtEnd}
use Rattle.cue_io.specs.declared.line.LineFault.{LineFault}
use Rattle.cue_io.specs.declared.line.LineFault.TheVariants as line_fault
use Rattle.farm_lines.specs.declared.limits.TheConstants.{REPLY_LIMIT}
use Rattle.rqd_core.specs.declared.orders.Orders.{Orders}
use Rattle.rqd_core.specs.declared.orders.RqdFault.{RqdFault}
use Rattle.rqd_core.specs.declared.orders.RqdFault.TheVariants as fault
use Rattle.rqd_core.specs.Life.{Life, after_line, line_of}
use Rattle.rqd_core.specs.Replies.{Taken, take_line}
use Rattle.rqd_launcher.specs.declared.call.SpawnCall.{SpawnCall}
use Rattle.rqd_launcher.specs.declared.call.SpawnTask.{SpawnTask}
use Rattle.rqd_launcher.specs.Carries.{AreCut, AreTold, life_after, polls_of}
use Rattle.rqd_session.specs.declared.cut.Cut.{Cut}
use Rattle.rqd_session.specs.declared.cut.Cut.TheVariants as cut
use Rattle.rqd_session.specs.Rounds.{IsFront, awaiting, take_bounded, taken_in, line_after, tasks_told}
use Rattle.rqd_session.specs.Steps.{Done, Gave, Awaits, IsSent, IsWhole, Makes, orders_told, tasks_ordered}
use Rattle.rqd_session.proofs.RoundLemmas.{front_none, front_part}

-- ---- what a reply line comes to

short_taken : (l : Life) (reply : List ℕ) → length reply ≤ REPLY_LIMIT → take_bounded l reply ≡ take_line l reply
short_taken l reply within = cond-false (nat_lt REPLY_LIMIT (length reply)) (record { life = l; told = Err fault.NotAReply }) (take_line l reply) (le-ltb REPLY_LIMIT (length reply) within)

long_taken : (l : Life) (reply : List ℕ) → REPLY_LIMIT < length reply → take_bounded l reply ≡ record { life = l; told = Err fault.NotAReply }
long_taken l reply long = cond-true (nat_lt REPLY_LIMIT (length reply)) (record { life = l; told = Err fault.NotAReply }) (take_line l reply) (lt-ltb REPLY_LIMIT (length reply) long)

tasks_are : (told : Result Orders RqdFault) → tasks_ordered (orders_told told) ≡ tasks_told told
tasks_are (Ok orders) = refl
tasks_are (Err fault) = refl

abbrev pub done_by : List SpawnCall → List ℕ → List SpawnCall → Done
done_by polls sent acts = record { polls = polls; sent = sent; acts = acts }

-- what was answered is this fault
made_so : (old new : Life) (gave : Gave) (done : Done) (why : Cut) (result : Result ⊤ Cut) → IsErrAnd result (λ told. told ≡ why) → Makes old (Err why) new gave done
    → Makes old result new gave done
made_so old new gave done why result is makes =
    let p = err_from_is_err_and result is in
    subst (λ (r : Result ⊤ Cut). Makes old r new gave done) (sym (p.1 ∙ ap Err p.2)) makes

-- ---- before the line is sent

-- memory ran out among the polls
pub cut_polling : (old new : Life) (polls : List SpawnCall) (result : Result ⊤ Cut) → IsErrAnd result (λ told. told ≡ cut.NoMemory) → AreCut (polls_of old) polls
    → Makes old result new None (done_by polls [] [])
cut_polling old new polls result is polled =
    made_so old new None (done_by polls [] []) cut.NoMemory result is (refl, inl (record { is_part = polled; sent = refl }))

-- the line wasn't sent whole
sending : (why : Cut) (old mid next new : Life) (polls : List SpawnCall) (written written' : Option (List ℕ)) → AreTold (polls_of old) polls → mid ≡ life_after old polls
    → IsSent mid (Err why) next written written' → (sent : List ℕ) × Adds written written' sent × Makes old (Err why) new None (done_by polls sent [])
sending cut.Write old mid next new polls written written' polled mid_is part =
    let text : List ℕ = line_of mid ++ 10 ∷ [] in
    let front : IsFront (line_after old polls) (take part.count text)
    = subst (λ (l : Life). IsFront (line_of l ++ 10 ∷ []) (take part.count text)) mid_is (front_part text part.count part.cut) in
    (take part.count text, part.adds, (refl, record { is_part = (polled, front); sent = refl }))
sending cut.NoMemory old mid next new polls written written' polled mid_is same = (
  [],
  subst (λ (now : Option (List ℕ)). Adds written now []) (sym same) (Adds-none written),
  (refl, inr (record { is_part = (polled, front_none (line_after old polls) (omega (arith, length-append (line_of (life_after old polls)) (10 ∷ [])))); sent = refl })),
)
sending why old mid next new polls written written' polled mid_is sent = absurd sent

pub cut_sending : (why : Cut) (old mid next new : Life) (polls : List SpawnCall) (written written' : Option (List ℕ)) (result : Result ⊤ Cut)
    → IsErrAnd result (λ told. told ≡ why) → AreTold (polls_of old) polls → mid ≡ life_after old polls → IsSent mid (Err why) next written written'
    → (sent : List ℕ) × Adds written written' sent × Makes old result new None (done_by polls sent [])
cut_sending why old mid next new polls written written' result is polled mid_is sent =
    let so = sending why old mid next new polls written written' polled mid_is sent in
    (so.0, so.1, made_so old new None (done_by polls so.0 []) why result is so.2)

-- ---- once it is sent

-- all that runs was polled, and the reply is awaited
pub record IsAwaiting (old next : Life) (polls : List SpawnCall) : Type 0 where
  pub polled : AreTold (polls_of old) polls
  pub next_is : next ≡ awaiting old polls

pub is_awaiting : (old mid next : Life) (polls : List SpawnCall) → AreTold (polls_of old) polls → mid ≡ life_after old polls → next ≡ after_line mid → IsAwaiting old next polls
is_awaiting old mid next polls polled mid_is next_is = record { polled = polled; next_is = next_is ∙ ap after_line mid_is }

-- what was sent is the line after the polls
pub line_sent : (old mid : Life) (polls : List SpawnCall) (written written' : Option (List ℕ)) → mid ≡ life_after old polls → Adds written written' (line_of mid ++ 10 ∷ [])
    → Adds written written' (line_after old polls)
line_sent old mid polls written written' mid_is sends = subst (λ (l : Life). Adds written written' (line_of l ++ 10 ∷ [])) mid_is sends

-- no reply line came, or memory ran out at it
reading : (why : Cut) (answer : Result Given LineFault) (old next third new : Life) (polls : List SpawnCall) → IsAwaiting old next polls → Awaits next (Err why) third answer
    → Makes old (Err why) new (Some answer) (done_by polls (line_after old polls) [])
reading cut.Read (Err line_fault.Read) old next third new polls asked awaits = (refl, record { is_part = asked.polled; sent = refl })
reading cut.Spent (Err line_fault.Spent) old next third new polls asked awaits = (refl, record { is_part = asked.polled; sent = refl })
reading cut.End (Ok AtEnd) old next third new polls asked awaits = (refl, record { is_part = asked.polled; sent = refl })
reading cut.NoMemory (Ok (Whole reply)) old next third new polls asked awaits = λ within. inl (refl, record { is_part = (asked.polled, within); sent = refl })
reading why (Ok (Whole reply)) old next third new polls asked awaits = absurd awaits
reading why (Ok Long) old next third new polls asked awaits = absurd awaits
reading why (Ok AtEnd) old next third new polls asked awaits = absurd awaits
reading why (Err fault) old next third new polls asked awaits = absurd awaits

pub cut_reading : (why : Cut) (answer : Result Given LineFault) (old next third new : Life) (polls : List SpawnCall) (result : Result ⊤ Cut)
    → IsErrAnd result (λ told. told ≡ why) → IsAwaiting old next polls → Awaits next (Err why) third answer
    → Makes old result new (Some answer) (done_by polls (line_after old polls) [])
cut_reading why answer old next third new polls result is asked awaits =
    made_so old new (Some answer) (done_by polls (line_after old polls) []) why result is (reading why answer old next third new polls asked awaits)

-- ---- once a reply line came

-- what the reply comes to is what was ordered, and the life after it
record IsOrderedAs (taken : Taken) (orders : Option Orders) (third : Life) : Type 0 where
  orders_are : orders ≡ orders_told taken.told
  life_is : third ≡ taken.life

ordered_whole : (old next third : Life) (polls : List SpawnCall) (orders : Option Orders) (reply : List ℕ) → IsAwaiting old next polls → Awaits next (Ok orders) third (Ok (Whole reply))
    → length reply ≤ REPLY_LIMIT → IsOrderedAs (taken_in old polls reply) orders third
ordered_whole old next third polls orders reply asked awaits within =
    let is : take_line next reply ≡ taken_in old polls reply = ap (λ l. take_line l reply) asked.next_is ∙ sym (short_taken (awaiting old polls) reply within) in
    record { orders_are = awaits.0 ∙ ap (λ (t : Taken). orders_told t.told) is; life_is = awaits.1 ∙ ap (λ (t : Taken). t.life) is }

ordered_too_long : (old next third : Life) (polls : List SpawnCall) (orders : Option Orders) (reply : List ℕ) → IsAwaiting old next polls → Awaits next (Ok orders) third (Ok Long)
    → REPLY_LIMIT < length reply → IsOrderedAs (taken_in old polls reply) orders third
ordered_too_long old next third polls orders reply asked awaits long =
    let is : record { life = awaiting old polls; told = Err fault.NotAReply } ≡ taken_in old polls reply = sym (long_taken (awaiting old polls) reply long) in
    record { orders_are = awaits.0 ∙ ap (λ (t : Taken). orders_told t.told) is; life_is = awaits.1 ∙ asked.next_is ∙ ap (λ (t : Taken). t.life) is }

-- what was ordered are the reply's tasks
tasks_taken : (taken : Taken) (orders : Option Orders) (third : Life) → IsOrderedAs taken orders third → tasks_ordered orders ≡ tasks_told taken.told
tasks_taken taken orders third so = ap tasks_ordered so.orders_are ∙ tasks_are taken.told

whole_by : (old next third new : Life) (polls acts : List SpawnCall) (orders : Option Orders) (reply : List ℕ) → IsAwaiting old next polls
    → IsOrderedAs (taken_in old polls reply) orders third → AreTold (tasks_ordered orders) acts → new ≡ life_after third acts
    → IsWhole old new reply (done_by polls (line_after old polls) acts)
whole_by old next third new polls acts orders reply asked so acted new_is = record {
  is_round = record {
    polls = asked.polled;
    acts = subst (λ (tasks : List SpawnTask). AreTold tasks acts) (tasks_taken (taken_in old polls reply) orders third so) acted;
  };
  sent = refl;
  life_is = new_is ∙ ap (λ l. life_after l acts) so.life_is;
}

-- all that was ordered was done
pub made_whole : (made : ⊤) (answer : Result Given LineFault) (old next third new : Life) (polls acts : List SpawnCall) (orders : Option Orders)
    → IsAwaiting old next polls → Awaits next (Ok orders) third answer → AreTold (tasks_ordered orders) acts → new ≡ life_after third acts
    → Makes old (Ok made) new (Some answer) (done_by polls (line_after old polls) acts)
made_whole made (Ok (Whole reply)) old next third new polls acts orders asked awaits acted new_is =
    λ within. whole_by old next third new polls acts orders reply asked (ordered_whole old next third polls orders reply asked awaits within) acted new_is
made_whole made (Ok Long) old next third new polls acts orders asked awaits acted new_is =
    λ reply long. whole_by old next third new polls acts orders reply asked (ordered_too_long old next third polls orders reply asked awaits long) acted new_is
made_whole made answer old next third new polls acts orders asked awaits acted new_is = absurd awaits

-- of no tasks not all can be left
none_cut : (acts : List SpawnCall) → AreCut [] acts → ⊥
none_cut acts rest = omega (arith, rest.1, ap length rest.2, length-append (map (λ (c : SpawnCall). c.task) acts) rest.0)

-- memory ran out among what was ordered
acting : (answer : Result Given LineFault) (old next third new : Life) (polls acts : List SpawnCall) (orders : Option Orders) → IsAwaiting old next polls
    → Awaits next (Ok orders) third answer → AreCut (tasks_ordered orders) acts → Makes old (Err cut.NoMemory) new (Some answer) (done_by polls (line_after old polls) acts)
acting (Ok (Whole reply)) old next third new polls acts orders asked awaits acted = λ within.
    let so = ordered_whole old next third polls orders reply asked awaits within in
    let left = subst (λ (tasks : List SpawnTask). AreCut tasks acts) (tasks_taken (taken_in old polls reply) orders third so) acted in
    inr (record { is_part = (asked.polled, left); sent = refl })
acting (Ok Long) old next third new polls acts orders asked awaits acted = absurd (none_cut acts (subst (λ (o : Option Orders). AreCut (tasks_ordered o) acts) awaits.0 acted))
acting answer old next third new polls acts orders asked awaits acted = absurd awaits

pub cut_acting : (answer : Result Given LineFault) (old next third new : Life) (polls acts : List SpawnCall) (orders : Option Orders) (result : Result ⊤ Cut)
    → IsErrAnd result (λ told. told ≡ cut.NoMemory) → IsAwaiting old next polls → Awaits next (Ok orders) third answer → AreCut (tasks_ordered orders) acts
    → Makes old result new (Some answer) (done_by polls (line_after old polls) acts)
cut_acting answer old next third new polls acts orders result is asked awaits acted =
    made_so old new (Some answer) (done_by polls (line_after old polls) acts) cut.NoMemory result is (acting answer old next third new polls acts orders asked awaits acted)
