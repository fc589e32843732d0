-- What one round does, by what the reader of reply lines gave in it.
use Rattle.std.specs.Prelude.{ℕ, ◌≡◌, ◌<◌, ◌≤◌, ◌⊎◌, ◌++◌, ◌∷◌, List, [], length, Option, None, Some, Result, Ok, Err, ⊤}
use Rattle.command_line.specs.declared.status.Status.{Status}
use Rattle.command_line.specs.declared.status.Status.TheVariants as exit
use Rattle.cue_io.specs.Output.{Adds, AddsPart}
use Rattle.cue_io.specs.Reader.{Given, Whole, Long, AtEnd, Held, Moves}
use Rattle.cue_io.specs.declared.line.LineFault.{LineFault}
use Rattle.cue_io.specs.declared.line.LineFault.TheVariants as line_fault
use Rattle.farm_lines.specs.declared.limits.TheConstants.{REPLY_LIMIT}
use Rattle.rqd_core.specs.declared.orders.Orders.{Orders}
use Rattle.rqd_core.specs.declared.orders.RqdFault.{RqdFault}
use Rattle.rqd_core.specs.Life.{Life, after_line, line_of}
use Rattle.rqd_core.specs.Replies.{Taken, take_line}
use Rattle.rqd_launcher.specs.declared.call.SpawnCall.{SpawnCall}
use Rattle.rqd_launcher.specs.declared.call.SpawnTask.{SpawnTask}
use Rattle.rqd_launcher.specs.Carries.{tasks_of}
use Rattle.rqd_session.specs.declared.cut.Cut.{Cut}
use Rattle.rqd_session.specs.declared.cut.Cut.TheVariants as cut
use Rattle.rqd_session.specs.Rounds.{Round, Part, Polling, Sending, Waiting, Reading, Acting, IsPart, IsRound, after_round, line_after, sent_by}

-- what the reader gave in a round, where it came so far
abbrev pub Gave : Type 0
Gave = Option (Result Given LineFault)

-- what a round had the spawner do, and what it sent
pub record Done : Type 0 where
  pub polls : List SpawnCall
  pub sent : List ℕ
  pub acts : List SpawnCall

abbrev pub round_of : Done → List ℕ → Round
round_of done reply = record { polls = done.polls; reply = reply; acts = done.acts }

-- the round is whole, with this reply line
pub record IsWhole (old new : Life) (reply : List ℕ) (done : Done) : Type 0 where
  pub is_round : IsRound old (round_of done reply)
  pub sent : done.sent ≡ line_after old done.polls
  pub life_is : new ≡ after_round old (round_of done reply)

-- it was cut off there
pub record IsCutAt (old : Life) (part : Part) (done : Done) : Type 0 where
  pub is_part : IsPart old part
  pub sent : done.sent ≡ sent_by old part

-- memory ran out before the reader was asked
abbrev pub RanOutEarly : Life → Done → Type 0
RanOutEarly old done = (done.acts ≡ []) × (IsCutAt old (Polling done.polls) done ⊎ IsCutAt old (Sending done.polls []) done)

-- memory ran out once this reply line was there
abbrev pub RanOutLate : Life → List ℕ → Done → Type 0
RanOutLate old reply done = ((done.acts ≡ []) × IsCutAt old (Reading done.polls reply) done) ⊎ IsCutAt old (Acting done.polls reply done.acts) done

-- no reply line came
abbrev pub IsLeftWaiting : Life → Done → Type 0
IsLeftWaiting old done = (done.acts ≡ []) × IsCutAt old (Waiting done.polls) done

-- what a round does, where a whole line that the reader gives is within its limit
abbrev pub Makes : Life → Result ⊤ Cut → Life → Gave → Done → Type 0
Makes old (Ok made) new (Some (Ok (Whole reply))) done = length reply ≤ REPLY_LIMIT → IsWhole old new reply done
Makes old (Ok made) new (Some (Ok Long)) done = (reply : List ℕ) → REPLY_LIMIT < length reply → IsWhole old new reply done
Makes old (Err cut.Write) new None done = (done.acts ≡ []) × IsCutAt old (Sending done.polls done.sent) done
Makes old (Err cut.NoMemory) new None done = RanOutEarly old done
Makes old (Err cut.NoMemory) new (Some (Ok (Whole reply))) done = length reply ≤ REPLY_LIMIT → RanOutLate old reply done
Makes old (Err cut.Read) new (Some (Err line_fault.Read)) done = IsLeftWaiting old done
Makes old (Err cut.Spent) new (Some (Err line_fault.Spent)) done = IsLeftWaiting old done
Makes old (Err cut.End) new (Some (Ok AtEnd)) done = IsLeftWaiting old done
Makes old result new gave done = ⊥

-- the orders that a reply gives, if any
abbrev pub orders_told : Result Orders RqdFault → Option Orders
orders_told (Ok orders) = Some orders
orders_told (Err fault) = None

-- what a line ordered, or memory ran out and nothing has changed
abbrev pub IsOrdered : Life → Taken → Result (Option Orders) Cut → Life → Type 0
IsOrdered old taken (Ok orders) new = (orders ≡ orders_told taken.told) × (new ≡ taken.life)
IsOrdered old taken (Err cut.NoMemory) new = new ≡ old
IsOrdered old taken (Err other) new = ⊥

-- What came of awaiting a reply. A line that is too long orders nothing. Where no line came nothing has changed.
abbrev pub Awaits : Life → Result (Option Orders) Cut → Life → Result Given LineFault → Type 0
Awaits old result new (Ok (Whole reply)) = IsOrdered old (take_line old reply) result new
Awaits old (Ok orders) new (Ok Long) = (orders ≡ None) × (new ≡ old)
Awaits old (Err cut.End) new (Ok AtEnd) = new ≡ old
Awaits old (Err cut.Read) new (Err line_fault.Read) = new ≡ old
Awaits old (Err cut.Spent) new (Err line_fault.Spent) = new ≡ old
Awaits old result new answer = ⊥

-- the tasks of what was ordered, if anything
abbrev pub tasks_ordered : Option Orders → List SpawnTask
tasks_ordered None = []
tasks_ordered (Some orders) = tasks_of orders

-- the status of a call whose last round was cut off
abbrev pub status_of : Cut → Status
status_of cut.Read = exit.ReadFailed
status_of cut.Write = exit.WriteFailed
status_of cut.NoMemory = exit.NoMemory
status_of cut.Spent = exit.Spent
status_of cut.End = exit.InputEnded

-- what the reader gave and took of the source; where it wasn't asked, both stay
abbrev pub GaveSo : Option (List ℕ) → Option (List ℕ) → Held → Gave → Held → Type 0
GaveSo left left' old None new = (new ≡ old) × (left' ≡ left)
GaveSo left left' old (Some answer) new = Moves left left' old answer new

-- the next line was sent, or a part of it; nothing of it where memory ran out
abbrev pub IsSent : Life → Result ⊤ Cut → Life → Option (List ℕ) → Option (List ℕ) → Type 0
IsSent old (Ok sent) new written written' = (new ≡ after_line old) × Adds written written' (line_of old ++ 10 ∷ [])
IsSent old (Err cut.Write) new written written' = AddsPart written written' (line_of old ++ 10 ∷ [])
IsSent old (Err cut.NoMemory) new written written' = written' ≡ written
IsSent old (Err other) new written written' = ⊥
