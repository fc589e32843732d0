-- A session of one connection beside others: its lines, what was replied to each, and what its pass saw meanwhile.
use Rattle.std.specs.Prelude.{◌≡◌, ◌<◌, ◌≤◌, ◌^◌, ◌++◌, ◌∷◌, [], ◌⊎◌, ℕ, List, length, map, Option}
use Rattle.std.specs.List.{All}
use Rattle.cue_io.specs.declared.limits.TheConstants.{BYTE_LIMIT}
use Rattle.fault_counts.specs.Counts.{HasRisen}
use Rattle.farm_lines.specs.declared.limits.TheConstants.{LINE_LIMIT}
use Rattle.farm_lines.specs.declared.reply.Reply.TheVariants as reply
use Rattle.farm_lines.specs.Reply.{reply_text}
use Rattle.line_exchanges.specs.Calls.{CallOf, HasLines, HasMoved, Streams}
use Rattle.line_exchanges.specs.declared.exchanged.Exchanged.{Exchanged}
use Rattle.line_exchanges.specs.declared.exchanged.Exchanged.TheVariants as exchanged
use Rattle.shared_lines.specs.Beside.{AnswersBeside}
use Rattle.shared_lines.specs.line_answers.specs.booking_recorder.specs.Passing.{Passing}
use Rattle.shared_sessions.specs.declared.session_end.SessionEnd.{SessionEnd}
use Rattle.shared_sessions.specs.declared.session_end.SessionEnd.TheVariants as session_end

-- ---- one line

-- a line, the clock's reading at which it was answered, and its reply, with its newline
pub record ServedLine : Type 0 where
  pub line : List ℕ
  pub moment : ℕ
  pub reply : List ℕ

-- a line past the limit is told so, and the pass is as before
pub record IsToldLong (v : Passing) (l : ServedLine) (w : Passing) : Type 0 where
  pub long : LINE_LIMIT < length l.line
  pub told : l.reply ≡ reply_text reply.TooLong ++ 10 ∷ []
  pub same : w ≡ v

-- each other line is answered beside others, and meanwhile the pass sees, records and finds what that says
pub record IsTakenIn (v : Passing) (l : ServedLine) (w : Passing) : Type 0 where
  pub within : length l.line ≤ LINE_LIMIT
  pub answers : AnswersBeside v l.line l.moment l.reply w

abbrev pub ServesLine : Passing → ServedLine → Passing → Type 0
ServesLine v l w = IsToldLong v l w ⊎ IsTakenIn v l w

-- ---- lines in turn

-- each line is answered by the pass as the one before it left it
abbrev pub Session : Passing → List ServedLine → Passing → Type 0
Session v [] w = v ≡ w
Session v (l ∷ ls) w = (u : Passing) × ServesLine v l u × Session u ls w

abbrev pub lines_of : List ServedLine → List (List ℕ)
lines_of ls = map (λ (l : ServedLine). l.line) ls

abbrev pub moments_of : List ServedLine → List ℕ
moments_of ls = map (λ (l : ServedLine). l.moment) ls

-- the replies, one after the other
abbrev pub replies_of : List ServedLine → List ℕ
replies_of [] = []
replies_of (l ∷ ls) = l.reply ++ replies_of ls

-- the replies of all lines but the last were written, and a part of the last one's
pub record EndsInReply (lines : List ServedLine) (wrote : List ℕ) : Type 0 where
  pub before : List ServedLine
  pub last : ServedLine
  pub part : List ℕ
  pub unwritten : List ℕ
  pub all : lines ≡ before ++ last ∷ []
  pub some : 0 < length unwritten
  pub reply : part ++ unwritten ≡ last.reply
  pub written : wrote ≡ replies_of before ++ part

-- the bytes written are the replies, but where a write failed
abbrev pub HasReplies : Exchanged → List ServedLine → List ℕ → Type 0
HasReplies exchanged.Write lines wrote = EndsInReply lines wrote
HasReplies ended lines wrote = wrote ≡ replies_of lines

-- ---- a whole session

-- what was taken of the source, written to the sink and read of the clock, and the lines that were answered
abbrev pub ServedCall : Type 0
ServedCall = CallOf ServedLine

-- The lines are those of the bytes taken, by how the session ended, and the bytes written are their replies. Each was answered at the clock's next reading, a
-- number of 64 bits, beside others.
pub record HasServed (ended : Exchanged) (v : Passing) (call : ServedCall) (w : Passing) (unread : Option (List ℕ)) : Type 0 where
  pub lines : HasLines ended call.taken (lines_of call.exchanges) unread
  pub replies : HasReplies ended call.exchanges call.written
  pub moments : call.readings ≡ moments_of call.exchanges
  pub within : All (λ (l : ServedLine). l.moment < 2 ^ 64) call.exchanges
  pub session : Session v call.exchanges w

-- how a session ends, by its last exchange
abbrev pub ended_by : Exchanged → SessionEnd
ended_by exchanged.Went = session_end.End
ended_by exchanged.End = session_end.End
ended_by exchanged.Read = session_end.Read
ended_by exchanged.Write = session_end.Write
ended_by exchanged.Spent = session_end.Spent

-- nothing was taken, written or read, and the pass is as before
pub record HasServedNone (v : Passing) (call : ServedCall) (w : Passing) : Type 0 where
  pub taken : call.taken ≡ []
  pub written : call.written ≡ []
  pub readings : call.readings ≡ []
  pub lines : call.exchanges ≡ []
  pub same : w ≡ v

-- what a session did, by how it ended; where memory ran out for it, nothing
abbrev pub Serves : SessionEnd → Passing → ServedCall → Passing → Option (List ℕ) → Type 0
Serves session_end.End v call w unread = HasServed exchanged.End v call w unread
Serves session_end.Read v call w unread = HasServed exchanged.Read v call w unread
Serves session_end.Write v call w unread = HasServed exchanged.Write v call w unread
Serves session_end.Spent v call w unread = HasServed exchanged.Spent v call w unread
Serves session_end.Memory v call w unread = HasServedNone v call w

-- A session that ended so moved its streams so, and served those lines. Where neither the source's nor the sink's count of faults rose, and fewer bytes were
-- taken than one session takes, it ended at the source's end, or memory ran out for it.
pub record IsServed (ended : SessionEnd) (before after : Streams) (v : Passing) (call : ServedCall) (w : Passing) : Type 0 where
  pub moved : HasMoved before after call
  pub serves : Serves ended v call w after.unread
  pub complete : (HasRisen before.read_faults after.read_faults → ⊥) → (HasRisen before.write_faults after.write_faults → ⊥)
      → length call.taken < BYTE_LIMIT → (ended ≡ session_end.End) ⊎ (ended ≡ session_end.Memory)
