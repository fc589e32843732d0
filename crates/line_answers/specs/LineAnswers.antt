-- What answering one line does.
use Rattle.std.specs.Prelude.{◌≡◌, ◌<◌, ◌++◌, ◌∷◌, [], ℕ, List, length, count_by, Bool, true, false, Option, Result, None, Some, Ok, Err}
use Rattle.farm_types.specs.declared.dispatch.Cut.{Cut}
use Rattle.farm_types.specs.declared.dispatch.Cut.TheVariants as cut
use Rattle.farm_types.specs.declared.entry.Act.{Act}
use Rattle.farm_types.specs.declared.entry.Act.TheVariants as act
use Rattle.farm_types.specs.declared.entry.Entry.{Entry}
use Rattle.farm_lines.specs.declared.asked.Asked.{Asked}
use Rattle.farm_lines.specs.declared.asked.Asked.TheVariants as asked
use Rattle.farm_lines.specs.declared.reply.Reply.{Reply}
use Rattle.farm_lines.specs.declared.reply.Reply.TheVariants as reply
use Rattle.farm_lines.specs.declared.report.Report.{Report}
use Rattle.farm_lines.specs.declared.request.Request.{Request}
use Rattle.farm_lines.specs.declared.request.RequestFault.{RequestFault}
use Rattle.farm_lines.specs.declared.request.RequestFault.TheVariants as fault
use Rattle.farm_types.specs.declared.fault.FarmFault.{FarmFault}
use Rattle.farm_types.specs.declared.fault.FarmFault.TheVariants as prepare
use Rattle.line_answers.specs.declared.reply_line.ReplyLine.{ReplyLine}
use Rattle.line_answers.specs.declared.reply_line.ReplyLine.TheVariants.{Written}
use Rattle.line_answers.specs.declared.reply_line.ReplyLine.TheVariants as reply_line
use Rattle.line_answers.specs.Lines.{IsLineOf}
use Rattle.line_answers.specs.Told.{Tells}
use Rattle.line_answers.specs.declared.told.Taken.{Taken}
use Rattle.dispatcher.specs.booking_recorder.specs.declared.refusal.CommitRefusal.{CommitRefusal}
use Rattle.dispatcher.specs.booking_recorder.specs.declared.refusal.CommitRefusal.TheVariants as commit
use Rattle.dispatcher.specs.recorder.specs.Recording.{ChangesRows}
use Rattle.farm_changes.specs.Change.{HasHeard}
use Rattle.farm_lines.specs.Asked.{asked_of, entry_at, heard_entry}
use Rattle.farm_lines.specs.Request.{request_of}
use Rattle.farm_types.specs.Dispatch.{round_for}
use Rattle.farm_types.specs.Farm.{Farm, host_named}
use Rattle.farm_lines.specs.Reply.{reply_text}
use Rattle.farm_types.specs.Run.{run_of}
use Rattle.farm_types.specs.Step.{after, refusal_of}
use Rattle.farm_lines.specs.Transcript.{Answered, Mark, Plain, Store, StoreAfter, LateStore, answer_to, asked_answer, entry_answer, is_store_mark}
use Rattle.farm_lines.specs.Transcript.{marked_answer, report_answer, unless_memory}

-- the farm took the entries of the answer, and the line is the reply's text with its newline
pub record IsAnswer (old : Farm) (answered : Answered) (new : Farm) (line : List ℕ) : Type 0 where
  pub farm : new ≡ run_of old answered.entries
  pub text : line ≡ reply_text answered.reply ++ 10 ∷ []

-- ---- marks of the store

-- the farm takes the entry, which changes a row
pub record MayFail (f : Farm) (e : Entry) : Type 0 where
  pub accepted : refusal_of f e ≡ None
  pub changes : ChangesRows f (after f e)

-- the farm takes the report, and a booking of the round that follows it is left after so many
pub record MayCut (f : Farm) (report : Report) (moment k : ℕ) : Type 0 where
  pub accepted : refusal_of f (heard_entry report moment) ≡ None
  pub host : ℕ
  pub named : host_named f report.heard.host ≡ Some host
  pub left : k < length (round_for (after f (heard_entry report moment)) host moment)

-- an entry but a report's may meet the store's mark alone
abbrev pub MayStoreEntry : Farm → Entry → Mark → Type 0
MayStoreEntry f e Store = MayFail f e
MayStoreEntry f e (StoreAfter k) = ⊥
MayStoreEntry f e (LateStore k) = ⊥
MayStoreEntry f e mark = Unit {0}

-- where a mark of the store may stand: of what is asked, an entry that changes a row, or a booking of a round
abbrev pub MayStore : Farm → ℕ → Asked → Mark → Type 0
MayStore f moment (asked.Report report) Store = MayFail f (heard_entry report moment)
MayStore f moment (asked.Report report) (StoreAfter k) = MayCut f report moment k
MayStore f moment (asked.Report report) (LateStore k) = MayCut f report moment k
MayStore f moment (asked.Act does) mark = MayStoreEntry f (entry_at moment does) mark
MayStore f moment (asked.List query) mark = is_store_mark mark ≡ false
MayStore f moment (asked.Report report) mark = Unit {0}

-- The line asks something that may meet a mark of the store, where it has one.
abbrev pub IsMarked : Farm → List ℕ → ℕ → Mark → Type 0
IsMarked f line moment mark = is_store_mark mark ≡ true → (what : Request) × (request_of line ≡ Ok what) × MayStore f moment (asked_of what) mark

-- ---- answers

-- how a keeper goes on, by all entries that are asked, those that were recorded, and whether the store failed at the next one
abbrev pub Going : Type 1
Going = List Entry → List Entry → Bool → Type 0

-- what was answered by a mark that may stand there; and so the keeper goes on, by what it is asked and by what the mark leaves of it
pub record IsMarkedAnswer (old : Farm) (answers : Mark → Answered) (may : Mark → Type 0) (new : Farm) (line : List ℕ) (goes : Going) : Type 0 where
  pub mark : Mark
  pub answer : IsAnswer old (answers mark) new line
  pub may_stand : may mark
  pub keeper : goes (answers Plain).entries (answers mark).entries (is_store_mark mark)

-- the line was answered
abbrev pub AnswersLine : Farm → List ℕ → ℕ → Farm → List ℕ → Going → Type 0
AnswersLine old line moment new text goes = IsMarkedAnswer old (answer_to old line moment) (IsMarked old line moment) new text goes

-- what is asked was answered
abbrev pub AnswersAsked : Farm → Asked → ℕ → Farm → List ℕ → Going → Type 0
AnswersAsked old what moment new text goes =
    IsMarkedAnswer old (λ mark. unless_memory mark (asked_answer old moment mark what)) (MayStore old moment what) new text goes

-- the entry was answered, by one of the marks
abbrev pub AnswersEntry : Farm → Entry → Farm → List ℕ → Going → Type 0
AnswersEntry old e new line goes =
    IsMarkedAnswer old (λ mark. unless_memory mark (entry_answer old e mark (refusal_of old e))) (MayStoreEntry old e) new line goes

-- the report was answered at the moment, by one of the marks
abbrev pub AnswersReport : Farm → Report → ℕ → Farm → List ℕ → Going → Type 0
AnswersReport old report moment new line goes =
    IsMarkedAnswer old (λ mark. unless_memory mark (report_answer old report moment mark (refusal_of old (heard_entry report moment))))
    (MayStore old moment (asked.Report report)) new line goes

-- ---- reports

-- what a report makes of a farm at a moment, by what the outside did
abbrev pub reported : Farm → Report → ℕ → Mark → Answered
reported f report moment mark = unless_memory mark (report_answer f report moment mark (refusal_of f (heard_entry report moment)))

-- the entry is a booking, and how many of these are
abbrev pub is_booking : Act → Bool
is_booking (act.Book slot host) = true
is_booking other = false

abbrev pub bookings_in : List Entry → ℕ
bookings_in es = count_by (λ (e : Entry). is_booking e.act) es

-- memory didn't run out
abbrev pub is_calm : Mark → Bool
is_calm Plain = true
is_calm Store = true
is_calm (StoreAfter k) = true
is_calm mark = false

-- the reply to a report tells that it did
abbrev pub is_short : Cut → Bool
is_short cut.Memory = true
is_short other = false

abbrev pub tells_memory : Reply → Bool
tells_memory reply.NoMemory = true
tells_memory (reply.Report told) = is_short told.cut
tells_memory other = false

-- The report was recorded at the moment with its round, or it wasn't, by one of the marks; the reply of that mark is told, and so many frames were
-- booked. Where it tells nothing of memory, it didn't run out. The keeper goes on as after the mark.
pub record TakesReport (old : Farm) (report : Report) (moment : ℕ) (new : Farm) (taken : Taken) (goes : Going) : Type 0 where
  pub mark : Mark
  pub farm : new ≡ run_of old (reported old report moment mark).entries
  pub reply : Tells taken.told (reported old report moment mark).reply
  pub booked : taken.booked ≡ bookings_in (reported old report moment mark).entries
  pub calm : tells_memory (reported old report moment mark).reply ≡ false → is_calm mark ≡ true
  pub may_stand : MayStore old moment (asked.Report report) mark
  pub keeper : goes (reported old report moment Plain).entries (reported old report moment mark).entries (is_store_mark mark)

-- A change was recorded, and the line is the one that was written for it; or the store failed or memory ran out, and the farm is as before. The store
-- fails only at a change of a row.
abbrev pub IsRecorded : Farm → Farm → List ℕ → Farm → ReplyLine → Type 0
IsRecorded old changed written new (Written line) = (new ≡ changed) × (line ≡ written)
IsRecorded old changed written new reply_line.Store = (new ≡ old) × ChangesRows old changed
IsRecorded old changed written new line = (line ≡ reply_line.NoMemory) × (new ≡ old)

-- The entry was recorded, and a report's host is told; or the farm refuses it; or the journal is spent, a host held, the store failed at a row that
-- changes, or memory ran out. At each fault the farm is as before.
abbrev pub Hears : Farm → Entry → Result (Option ℕ) CommitRefusal → Farm → Type 0
Hears old e (Ok host) new = (refusal_of old e ≡ None) × HasHeard old e.act host × (new ≡ after old e)
Hears old e (Err (commit.Refused why)) new = (refusal_of old e ≡ Some why) × (new ≡ old)
Hears old e (Err commit.Spent) new = (refusal_of old e ≡ None) × (new ≡ old)
Hears old e (Err (commit.Held cores memory)) new = (refusal_of old e ≡ None) × (new ≡ old)
Hears old e (Err commit.Store) new = (refusal_of old e ≡ None) × ChangesRows old (after old e) × (new ≡ old)
Hears old e (Err commit.NoMemory) new = new ≡ old

-- what is replied where the report wasn't recorded: the refusal, that the journal is spent or a host held, that the store failed, or that memory ran out
abbrev pub unrecorded_reply : CommitRefusal → Reply
unrecorded_reply (commit.Refused why) = reply.Refused why
unrecorded_reply commit.Spent = reply.EntriesFull
unrecorded_reply (commit.Held cores memory) = reply.StillHeld cores memory
unrecorded_reply commit.Store = reply.Store
unrecorded_reply commit.NoMemory = reply.NoMemory

-- no change was prepared: the line tells the refusal, or that memory ran out
abbrev pub IsUnprepared : FarmFault → List ℕ → Type 0
IsUnprepared (prepare.Refused why) line = IsLineOf (reply.Refused why) line
IsUnprepared prepare.NoMemory line = line ≡ reply_text reply.NoMemory ++ 10 ∷ []

-- the reply to a malformed line
abbrev pub fault_reply : RequestFault → Reply
fault_reply (fault.BadLine field) = reply.BadLine field
fault_reply (fault.BadRange layer found) = reply.BadRange layer found
fault_reply (fault.BadAmount field) = reply.BadAmount field
fault_reply fault.NoMemory = reply.NoMemory

-- the round after the entry may be cut by the store after so many bookings
abbrev pub MayCutRound : ℕ → Mark → Type 0
MayCutRound bookings Store = ⊥
MayCutRound bookings (StoreAfter k) = k < bookings
MayCutRound bookings (LateStore k) = k < bookings
MayCutRound bookings mark = Unit {0}

-- A round was walked over a farm, and the reply is to the report before it: whatever entry of the report made that farm, it is the answer by this mark,
-- and behind that entry these bookings were recorded.
pub record TakesRound (old : Farm) (host : ℕ) (report : Report) (moment : ℕ) (new : Farm) (taken : Taken) (goes : Going) : Type 0 where
  pub mark : Mark
  pub farm : (f : Farm) (heard : Entry) → after f heard ≡ old → new ≡ run_of f (marked_answer f host report heard (round_for old host moment) mark).entries
  pub reply : (f : Farm) (heard : Entry) → after f heard ≡ old → Tells taken.told (marked_answer f host report heard (round_for old host moment) mark).reply
  pub booked : (f : Farm) (heard : Entry) → is_booking heard.act ≡ false
      → taken.booked ≡ bookings_in (marked_answer f host report heard (round_for old host moment) mark).entries
  pub calm : (f : Farm) (heard : Entry) → tells_memory (marked_answer f host report heard (round_for old host moment) mark).reply ≡ false → is_calm mark ≡ true
  pub may_stand : MayCutRound (length (round_for old host moment)) mark
  pub done : List Entry
  pub behind : (f : Farm) (heard : Entry) → (marked_answer f host report heard (round_for old host moment) mark).entries ≡ heard ∷ done
  pub keeper : goes (round_for old host moment) done (is_store_mark mark)
