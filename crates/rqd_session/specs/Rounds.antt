-- Rounds of the daemon: it polls what runs, sends a line, takes a reply line, and does what that orders.
use Rattle.std.specs.Prelude.{ℕ, ◌≡◌, ◌<◌, ◌≤◌, List, [], ◌∷◌, ◌++◌, length, map, nat_lt, Result, Ok, Err, if◌then◌else◌}
use Rattle.farm_lines.specs.declared.limits.TheConstants.{REPLY_LIMIT}
use Rattle.rqd_core.specs.declared.orders.Orders.{Orders}
use Rattle.rqd_core.specs.declared.orders.RqdFault.{RqdFault}
use Rattle.rqd_core.specs.declared.orders.RqdFault.TheVariants as fault
use Rattle.rqd_core.specs.Life.{Life, after_line, line_of}
use Rattle.rqd_core.specs.Replies.{Taken, take_line}
use Rattle.rqd_launcher.specs.declared.call.SpawnCall.{SpawnCall}
use Rattle.rqd_launcher.specs.declared.call.SpawnTask.{SpawnTask}
use Rattle.rqd_launcher.specs.Carries.{AreCut, AreTold, life_after, polls_of, tasks_of}

-- ---- one round

-- a round: what the spawner answered to the polls, the reply line, and what it answered to the orders
pub record Round : Type 0 where
  pub polls : List SpawnCall
  pub reply : List ℕ
  pub acts : List SpawnCall

-- the line of a round whose polls were answered so, with its newline
abbrev pub line_after : Life → List SpawnCall → List ℕ
line_after l polls = line_of (life_after l polls) ++ 10 ∷ []

-- the life that awaits the reply to that line
abbrev pub awaiting : Life → List SpawnCall → Life
awaiting l polls = after_line (life_after l polls)

-- what a reply line comes to; one that is too long for a reply comes to nothing
abbrev pub take_bounded : Life → List ℕ → Taken
take_bounded l reply = if nat_lt REPLY_LIMIT (length reply) then record { life = l; told = Err fault.NotAReply } else take_line l reply

-- the tasks that come of it
abbrev pub tasks_told : Result Orders RqdFault → List SpawnTask
tasks_told (Ok orders) = tasks_of orders
tasks_told (Err fault) = []

-- what the reply of a round comes to
abbrev pub taken_in : Life → List SpawnCall → List ℕ → Taken
taken_in l polls reply = take_bounded (awaiting l polls) reply

abbrev pub after_round : Life → Round → Life
after_round l r = life_after (taken_in l r.polls r.reply).life r.acts

-- all that runs was polled, and all that was ordered was done
pub record IsRound (l : Life) (r : Round) : Type 0 where
  pub polls : AreTold (polls_of l) r.polls
  pub acts : AreTold (tasks_told (taken_in l r.polls r.reply).told) r.acts

-- ---- rounds after one another

abbrev pub AreRounds : Life → List Round → Type 0
AreRounds l [] = Unit {0}
AreRounds l (r ∷ rs) = IsRound l r × AreRounds (after_round l r) rs

abbrev pub after_rounds : Life → List Round → Life
after_rounds l [] = l
after_rounds l (r ∷ rs) = after_rounds (after_round l r) rs

-- the lines that they send
abbrev pub lines_sent : Life → List Round → List ℕ
lines_sent l [] = []
lines_sent l (r ∷ rs) = line_after l r.polls ++ lines_sent (after_round l r) rs

-- the spawner's calls
abbrev pub calls_in : List Round → List SpawnCall
calls_in [] = []
calls_in (r ∷ rs) = r.polls ++ r.acts ++ calls_in rs

abbrev pub replies_in : List Round → List (List ℕ)
replies_in rounds = map (λ (r : Round). r.reply) rounds

-- ---- a round that was cut off

-- where it was: among its polls; before its line was sent whole, of which this was written; before a reply line came; at that line; among its acts
pub data Part : Type 0 where
  Polling : List SpawnCall → Part
  Sending : List SpawnCall → List ℕ → Part
  Waiting : List SpawnCall → Part
  Reading : List SpawnCall → List ℕ → Part
  Acting : List SpawnCall → List ℕ → List SpawnCall → Part

-- less than all of the text, from its front
abbrev pub IsFront : List ℕ → List ℕ → Type 0
IsFront text wrote = (unwritten : List ℕ) × (0 < length unwritten) × (wrote ++ unwritten ≡ text)

abbrev pub IsPart : Life → Part → Type 0
IsPart l (Polling polls) = AreCut (polls_of l) polls
IsPart l (Sending polls wrote) = AreTold (polls_of l) polls × IsFront (line_after l polls) wrote
IsPart l (Waiting polls) = AreTold (polls_of l) polls
IsPart l (Reading polls reply) = AreTold (polls_of l) polls × (length reply ≤ REPLY_LIMIT)
IsPart l (Acting polls reply acts) = AreTold (polls_of l) polls × AreCut (tasks_told (taken_in l polls reply).told) acts

-- what it sent
abbrev pub sent_by : Life → Part → List ℕ
sent_by l (Polling polls) = []
sent_by l (Sending polls wrote) = wrote
sent_by l (Waiting polls) = line_after l polls
sent_by l (Reading polls reply) = line_after l polls
sent_by l (Acting polls reply acts) = line_after l polls

-- the spawner's calls
abbrev pub calls_by : Part → List SpawnCall
calls_by (Polling polls) = polls
calls_by (Sending polls wrote) = polls
calls_by (Waiting polls) = polls
calls_by (Reading polls reply) = polls
calls_by (Acting polls reply acts) = polls ++ acts

-- the reply line that it took, if any
abbrev pub replies_by : Part → List (List ℕ)
replies_by (Reading polls reply) = reply ∷ []
replies_by (Acting polls reply acts) = reply ∷ []
replies_by part = []
