-- What a whole call does: what it took, wrote and read of the clock, the exchanges that it made, and how it ended.
use Rattle.std.specs.Prelude.{◌≡◌, ◌↔◌, ◌<◌, ◌^◌, ◌++◌, ◌∷◌, [], ◌⊎◌, ℕ, Bool, List, false, count_by, length, take, Option, None, Some}
use Rattle.std.specs.List.{All}
use Rattle.fault_counts.specs.Counts.{HasRisen, HasRisenBy}
use Rattle.cue_io.specs.History.{HasGiven}
use Rattle.cue_io.specs.Reader.{Held, Given, Whole, Long, AtEnd}
use Rattle.cue_io.specs.declared.limits.TheConstants.{BYTE_LIMIT}
use Rattle.command_line.specs.declared.status.Status.{Status}
use Rattle.command_line.specs.declared.status.Status.TheVariants as exit
use Rattle.farm_types.specs.Farm.{Farm}
use Rattle.farm_types.specs.Run.{IsLegal, IsSafe, run_of}
use Rattle.farm_keeper.specs.Keeping.{Committing, Continues}
use Rattle.farm_keeper.specs.Rows.{Rows}
use Rattle.farm_types.specs.declared.entry.Entry.{Entry}
use Rattle.farm_lines.specs.Reply.{bad_store_line, reply_text}
use Rattle.farm_lines.specs.Transcript.{Mark, Plain, Exchange, answer_at, answer_to, transcript, farm_after, farm_next, entries_in, is_store_mark}
use Rattle.farm_lines.specs.Transcript.{lines_in, moments_in}
use Rattle.atomic_table.specs.declared.shared.Seat.{Seat}
use Rattle.farm_load.specs.booking_recorder.specs.Going.{GoesOn, Journals}
use Rattle.farm_load.specs.booking_recorder.specs.Recording.{Recording}
use Rattle.booking_rule.specs.declared.view.View.{View}
use Rattle.farm_load.specs.line_answers.specs.LineAnswers.{Going, IsAnswer, IsMarked}
use Rattle.farm_load.specs.recorder.specs.Recording.{ChangesNone}
use Rattle.farm_load.specs.recorder.specs.Telling.{Tells as TellsKeeper}
use Rattle.recovery.specs.declared.fault.RecoverFault.{RecoverFault}
use Rattle.recovery.specs.declared.fault.RecoverFault.TheVariants.{BadBytes, BreaksFarm, NoMemory}
use Rattle.line_exchanges.specs.Calls.{CallOf, HasLines, HasMoved, Streams}
use Rattle.line_exchanges.specs.declared.exchanged.Exchanged.{Exchanged}
use Rattle.line_exchanges.specs.declared.exchanged.Exchanged.TheVariants as exchanged
use Rattle.line_exchanges.specs.Exchanges.{IsStepOf}
use Rattle.session.specs.declared.opening.OpenFault.{OpenFault}
use Rattle.session.specs.declared.opening.OpenFault.TheVariants as fault
use Rattle.session.specs.Loads.{AnswersLoad}
use Rattle.session.specs.Opening.{HoldsFarm}
use Rattle.session.specs.Seats.{GivesSeat}
use Rattle.session.specs.Words.{WordForm, Load, TakesLines, form_of, is_load, opened_farm, opening_entries}
use Rattle.farm_lines.specs.declared.limits.TheConstants.{LINE_LIMIT}

-- ---- one line

-- what the reader gave is answered: a whole line, or any line that is too long
abbrev pub Answers : Given → Farm → ℕ → Mark → Farm → List ℕ → Type 0
Answers (Whole line) old moment mark new text = IsAnswer old (answer_to old line moment mark) new text
Answers Long old moment mark new text = (line : List ℕ) → LINE_LIMIT < length line → IsAnswer old (answer_to old line moment mark) new text
Answers AtEnd old moment mark new text = ⊥

-- a mark may stand at what was given
abbrev pub MayStand : Given → Farm → ℕ → Mark → Type 0
MayStand (Whole line) old moment mark = IsMarked old line moment mark
MayStand other old moment mark = is_store_mark mark ≡ false

-- the keeper is as before where nothing that is asked changes a row: so at a refusal, at a list, and at what is no request
abbrev pub StaysAt : Given → Farm → ℕ → Type 0 → Type 0
StaysAt (Whole line) f moment same = ChangesNone f (answer_to f line moment Plain).entries → same
StaysAt other f moment same = same

-- the entries of what was given, by the mark: none of a line that is too long
abbrev pub entries_by : Given → Farm → ℕ → Mark → List Entry
entries_by (Whole line) f moment mark = (answer_to f line moment mark).entries
entries_by other f moment mark = []

-- A line was answered, with the clock's reading, a number of 64 bits, and the mark; of the reply's text this was written, and this wasn't. The mark is of
-- the store only where that may be. The keeper went on so, by what is asked and what the mark leaves of it.
pub record IsExchange (given : Given) (old new : Farm) (wrote unwritten seen : List ℕ) (goes : Going) (same : Type 0) : Type 0 where
  pub moment : ℕ
  pub mark : Mark
  pub reply : List ℕ
  pub moment_within : moment < 2 ^ 64
  pub read : seen ≡ moment ∷ []
  pub answers : Answers given old moment mark new reply
  pub may_stand : MayStand given old moment mark
  pub keeper : goes (entries_by given old moment Plain) (entries_by given old moment mark) (is_store_mark mark)
  pub stays : StaysAt given old moment same
  pub written : wrote ++ unwritten ≡ reply

-- nothing was answered, and the recorder is as before
pub record IsNoExchange (old new : Farm) (wrote seen : List ℕ) (still : Type 0) : Type 0 where
  pub farm_same : new ≡ old
  pub recorder_same : still
  pub none_written : wrote ≡ []
  pub none_read : seen ≡ []

-- one step: what the reader did with the bytes taken, and what was done with what it gave
abbrev pub IsStep : Exchanged → Held → Held → Option (List ℕ) → Farm → Farm → List ℕ → List ℕ → List ℕ → Going → Type 0 → Type 0 → Type 0
IsStep result old new unread before after took wrote seen goes same still =
    IsStepOf result old new unread took wrote (λ given wrote unwritten. IsExchange given before after wrote unwritten seen goes same)
    (IsNoExchange before after wrote seen still)

-- ---- what a call took, wrote and read

-- a call, with the exchanges that it made
abbrev pub Call : Type 0
Call = CallOf Exchange

-- ---- marks of the store

-- how many exchanges have one
abbrev pub store_marks : List Exchange → ℕ
store_marks ts = count_by (λ (t : Exchange). is_store_mark t.mark) ts

-- each stands where it may
abbrev pub AreMarked : Farm → List Exchange → Type 0
AreMarked f [] = Unit {0}
AreMarked f (t ∷ ts) = IsMarked f t.line t.moment t.mark × AreMarked (farm_next f t) ts

-- ---- the keeper, line by line

-- how a recorder went on over what was asked, and, where its keeper tells the truth, that this holds the rows of what was recorded
pub record WentOn {K : Type 0} (commits : Committing K) (tells : K → Type 0) (holds left : K → Rows → Type 0) (faults : K → ℕ) (before now : Recording K)
    (all done : List Entry) (failed : Bool) : Type 0 where
  pub on : GoesOn commits tells faults before now all done failed
  pub recorded : HoldsFarm (tells now.keeper) (holds now.keeper) (left now.keeper) (run_of before.farm done)

-- How a keeper went on over one line. Its count of faults is one more exactly where the line's mark is of the store. It is as before where nothing that
-- the line asks changes a row. It was told what was recorded, entry by entry, and took it, and of what else the line asks the next entry at most: it failed
-- at that one exactly where the mark is of the store. Then it holds the rows of the farm after the line, and a stop leaves these, or those of that farm one
-- legal entry further.
pub record GoesOnAt {K : Type 0} (commits : Committing K) (tells : K → Type 0) (holds left : K → Rows → Type 0) (faults : K → ℕ) (f : Farm) (t : Exchange)
    (before now : K) : Type 0 where
  pub keeper : Continues tells faults before now (is_store_mark t.mark)
  pub stays : ChangesNone f (answer_to f t.line t.moment Plain).entries → now ≡ before
  pub told : TellsKeeper commits f (answer_to f t.line t.moment Plain).entries (answer_at f t).entries (is_store_mark t.mark) before now
  pub recorded : HoldsFarm (tells now) (holds now) (left now) (farm_next f t)

-- over lines in turn, each with the keeper as the next line finds it
abbrev pub GoesOnOver : {K : Type 0} → Committing K → (K → Type 0) → (K → Rows → Type 0) → (K → Rows → Type 0) → (K → ℕ) → Farm → List Exchange → K → K → Type 0
GoesOnOver commits tells holds left faults f [] before now = now ≡ before
GoesOnOver {K = K} commits tells holds left faults f (t ∷ ts) before now =
    (next : K) × GoesOnAt commits tells holds left faults f t before next × GoesOnOver commits tells holds left faults (farm_next f t) ts next now

-- how a recorder went on over lines in turn, up to this keeper and this view: its journal has exactly their entries more
pub record RecordsOver {K : Type 0} (commits : Committing K) (tells : K → Type 0) (holds left : K → Rows → Type 0) (faults : K → ℕ) (before : Recording K)
    (now : K) (v : View) (ts : List Exchange) : Type 0 where
  pub lines : GoesOnOver commits tells holds left faults before.farm ts before.keeper now
  pub journals : Journals before.view v (entries_in before.farm ts)

-- from the opening of a farm on, in which no call of it failed, and which it recorded
pub record GoesOnOpened {K : Type 0} (commits : Committing K) (tells : K → Type 0) (holds left : K → Rows → Type 0) (faults : K → ℕ) (given now : K) (f : Farm)
    (ts : List Exchange) : Type 0 where
  pub opened : K
  pub begins : Continues tells faults given opened false
  pub recorded : HoldsFarm (tells opened) (holds opened) (left opened) f
  pub lines : GoesOnOver commits tells holds left faults f ts opened now

-- ---- a whole session

-- these exchanges were made, each at a moment of 64 bits: the farm is the one after them, the bytes written are their transcript, and the keeper went on so
pub record HasAnswered (first : Farm) (exchanges : List Exchange) (farm : Farm) (wrote seen : List ℕ) (goes_on : List Exchange → Type 0) : Type 0 where
  pub farm_is : farm ≡ farm_after first exchanges
  pub replies : wrote ≡ transcript first exchanges
  pub moments : seen ≡ moments_in exchanges
  pub within : All (λ (t : Exchange). t.moment < 2 ^ 64) exchanges
  pub marked : AreMarked first exchanges
  pub keeper : goes_on exchanges

-- these exchanges were made, and their lines are those that the reader gave of the bytes taken
pub record HasServed (first : Farm) (call : Call) (farm : Farm) (reader : Held) (unread : Option (List ℕ)) (goes_on : List Exchange → Type 0) : Type 0 where
  pub answered : HasAnswered first call.exchanges farm call.written call.readings goes_on
  pub given : HasGiven LINE_LIMIT call.taken (lines_in call.exchanges) reader unread

-- The exchanges are those before and one last: the replies of those before were written, and a part of the last one's.
pub record EndsInReply (first : Farm) (exchanges : List Exchange) (wrote : List ℕ) : Type 0 where
  pub before : List Exchange
  pub last : Exchange
  pub part : List ℕ
  pub unwritten : List ℕ
  pub all : exchanges ≡ before ++ last ∷ []
  pub some : 0 < length unwritten
  pub reply : part ++ unwritten ≡ reply_text (answer_at (farm_after first before) last).reply ++ 10 ∷ []
  pub written : wrote ≡ transcript first before ++ part

-- the bytes written are the replies, but where a write failed
abbrev pub HasReplies : Exchanged → Farm → List Exchange → List ℕ → Type 0
HasReplies exchanged.Write first exchanges wrote = EndsInReply first exchanges wrote
HasReplies ended first exchanges wrote = wrote ≡ transcript first exchanges

-- how a session ended that began with this farm, and went on to that one
pub record EndsSession (ended : Exchanged) (first last : Farm) (call : Call) (unread : Option (List ℕ)) (goes_on : List Exchange → Type 0) : Type 0 where
  pub lines : HasLines ended call.taken (lines_in call.exchanges) unread
  pub replies : HasReplies ended first call.exchanges call.written
  pub moments : call.readings ≡ moments_in call.exchanges
  pub within : All (λ (t : Exchange). t.moment < 2 ^ 64) call.exchanges
  pub farm_is : last ≡ farm_after first call.exchanges
  pub marked : AreMarked first call.exchanges
  pub keeper : goes_on call.exchanges

-- ---- the call

-- the status of a session, by how it ended
abbrev pub status_of : Exchanged → Status
status_of exchanged.Went = exit.Done
status_of exchanged.End = exit.Done
status_of exchanged.Read = exit.ReadFailed
status_of exchanged.Write = exit.WriteFailed
status_of exchanged.Spent = exit.Spent

-- A session over a farm that was opened ended with this status. The entries that it recorded are a legal run from that farm, and a safe one, and the
-- store holds the farm that they make.
pub record AnswersAll (status : Status) (first : Farm) (before after : Streams) (call : Call) (goes_on : List Exchange → Type 0)
    (holds : Farm → Type 0) : Type 0 where
  pub ended : Exchanged
  pub last : Farm
  pub status_is : status ≡ status_of ended
  pub moved : HasMoved before after call
  pub ends : EndsSession ended first last call after.unread goes_on
  pub legal : IsLegal first (entries_in first call.exchanges)
  pub safe : IsSafe first (entries_in first call.exchanges)
  pub held : holds last

-- A load over a farm that was opened moved nothing but its sink, the keeper and the journal.
pub record AnswersLoadCall (n : ℕ) (status : Status) (first : Farm) (before after : Streams) (call : Call) (holds : Farm → Type 0)
    (journals : List Entry → Type 0) : Type 0 where
  pub moved : HasMoved before after call
  pub none_taken : call.taken ≡ []
  pub none_read : call.readings ≡ []
  pub no_lines : call.exchanges ≡ []
  pub answered : AnswersLoad n first status call.written before.store_faults after.store_faults holds journals

-- what the arguments ask for was done over a farm that was opened
abbrev pub AnswersForm : WordForm → Status → Farm → Streams → Streams → Call → (List Exchange → Type 0) → (Farm → Type 0) → (List Entry → Type 0) → Type 0
AnswersForm (Load n) status first before after call goes_on holds journals = AnswersLoadCall n status first before after call holds journals
AnswersForm other status first before after call goes_on holds journals = AnswersAll status first before after call goes_on holds

-- The arguments ask for a session of lines, and the farm of the store was opened at the clock's first reading, with the entries of the form. The session
-- over it ended with this status. Its lines are those of the bytes taken, and what it wrote are their replies, each at a reading of the clock. The entries that
-- it recorded are a legal run from the opened farm, and a safe one, and the store holds the farm that they make. The keeper's count of faults rose by
-- exactly as many as there are marks of the store, one at the line of each. The seat's journal has the opening's entries and then those of the lines.
pub record IsSession (words : List (List ℕ)) (status : Status) (call : Call) (unread : Option (List ℕ)) (faults faults_now : ℕ)
    (seat : Option (Seat (Unit {0}) View)) (says : WordForm → Farm → Type 0) (goes_on : Farm → List Exchange → Type 0) (holds : Farm → Type 0) : Type 0 where
  pub form : WordForm
  pub opened : ℕ
  pub ended : Exchanged
  pub first : Farm
  pub formed : form_of words ≡ Some form
  pub of_lines : TakesLines form
  pub said : says form first
  pub status_is : status ≡ status_of ended
  pub lines : HasLines ended call.taken (lines_in call.exchanges) unread
  pub replies : HasReplies ended (opened_farm form first opened) call.exchanges call.written
  pub readings : call.readings ≡ opened ∷ moments_in call.exchanges
  pub opening_legal : IsLegal first (opening_entries form opened)
  pub legal : IsLegal (opened_farm form first opened) (entries_in (opened_farm form first opened) call.exchanges)
  pub safe : IsSafe (opened_farm form first opened) (entries_in (opened_farm form first opened) call.exchanges)
  pub marked : AreMarked (opened_farm form first opened) call.exchanges
  pub keeper : goes_on (opened_farm form first opened) call.exchanges
  pub causes : HasRisenBy (store_marks call.exchanges) faults faults_now
  pub held : holds (farm_after (opened_farm form first opened) call.exchanges)
  pub on_words : GivesSeat seat first (opening_entries form opened ++ entries_in (opened_farm form first opened) call.exchanges)

-- The arguments ask for a load, and its farm was opened, at moment 0: the clock was read once, for nothing, and no line was taken. The load was run over
-- that farm. The seat's journal has the opening's entries and then those of the load.
pub record IsLoadCall (words : List (List ℕ)) (status : Status) (call : Call) (faults faults_now : ℕ) (seat : Option (Seat (Unit {0}) View))
    (says : WordForm → Farm → Type 0) (holds : Farm → Type 0) : Type 0 where
  pub n : ℕ
  pub reading : ℕ
  pub first : Farm
  pub formed : form_of words ≡ Some (Load n)
  pub said : says (Load n) first
  pub readings : call.readings ≡ reading ∷ []
  pub none_taken : call.taken ≡ []
  pub no_lines : call.exchanges ≡ []
  pub opening_legal : IsLegal first (opening_entries (Load n) reading)
  pub answered : AnswersLoad n (opened_farm (Load n) first reading) status call.written faults faults_now holds
      (λ recorded. GivesSeat seat first (opening_entries (Load n) reading ++ recorded))

-- The opening, at the clock's one reading, went so far: these of its entries, which are a legal run, are in the store.
pub record IsOpening (words : List (List ℕ)) (call : Call) (says : WordForm → Farm → Type 0) (holds : Farm → Type 0) : Type 0 where
  pub form : WordForm
  pub opened : ℕ
  pub first : Farm
  pub done : ℕ
  pub formed : form_of words ≡ Some form
  pub said : says form first
  pub readings : call.readings ≡ opened ∷ []
  pub opening_legal : IsLegal first (opening_entries form opened)
  pub held : holds (run_of first (take done (opening_entries form opened)))

-- The arguments are invalid, or memory ran out before anything was done: nothing was taken or written, the clock wasn't read, and the keeper is the one
-- that was handed in. No seat is given back.
pub record IsUnstarted (status : Status) (before after : Streams) (call : Call) (seat : Option (Seat (Unit {0}) View)) (same : Type 0) : Type 0 where
  pub status_is : (status ≡ exit.WrongWords) ⊎ (status ≡ exit.NoMemory)
  pub still : after ≡ before
  pub none_taken : call.taken ≡ []
  pub none_written : call.written ≡ []
  pub none_read : call.readings ≡ []
  pub no_lines : call.exchanges ≡ []
  pub keeper_same : same
  pub no_seat : seat ≡ None

-- The rows of the store, which are of format 1, say a farm, and they were to be migrated, and weren't.
pub record IsOldStore (words : List (List ℕ)) (says : WordForm → Farm → Type 0) (unmigrated : Farm → Type 0) : Type 0 where
  pub form : WordForm
  pub first : Farm
  pub formed : form_of words ≡ Some form
  pub said : says form first
  pub left_old : unmigrated first

-- The store failed or memory ran out in the opening, at the clock's one reading: nothing was taken or written, and no seat is given back.
pub record IsUnopened (words : List (List ℕ)) (status : Status) (call : Call) (seat : Option (Seat (Unit {0}) View)) (says : WordForm → Farm → Type 0)
    (untouched : Type 0) (unmigrated holds : Farm → Type 0) : Type 0 where
  pub status_is : (status ≡ exit.StoreFailed) ⊎ (status ≡ exit.NoMemory)
  pub reading : ℕ
  pub readings : call.readings ≡ reading ∷ []
  pub none_taken : call.taken ≡ []
  pub none_written : call.written ≡ []
  pub no_lines : call.exchanges ≡ []
  pub kept : untouched ⊎ (IsOldStore words says unmigrated ⊎ IsOpening words call says holds)
  pub no_seat : seat ≡ None

-- all of the line was written, or a write failed and a front of it was
abbrev pub TellsLine : List ℕ → Status → List ℕ → Type 0
TellsLine line status wrote =
    ((status ≡ exit.BadStore) × (wrote ≡ line)) ⊎ ((status ≡ exit.WriteFailed) × (unwritten : List ℕ) × (0 < length unwritten) × (wrote ++ unwritten ≡ line))

-- the row at fault was told
abbrev pub TellsBad : RecoverFault → Status → List ℕ → Type 0
TellsBad (BadBytes kind id) status wrote = TellsLine (bad_store_line kind id) status wrote
TellsBad (BreaksFarm kind id) status wrote = TellsLine (bad_store_line kind id) status wrote
TellsBad NoMemory status wrote = ⊥

-- it was told, or memory ran out for its line
abbrev pub MayTell : Type 0 → Status → List ℕ → Type 0
MayTell told status wrote = told ⊎ ((status ≡ exit.NoMemory) × (wrote ≡ []))

-- what is told where no farm was opened: of the store's failure and of memory the status alone, and of a row at fault its line
abbrev pub TellsFault : OpenFault → Status → List ℕ → Type 0
TellsFault fault.Store status wrote = (status ≡ exit.StoreFailed) × (wrote ≡ [])
TellsFault (fault.Bad why) status wrote = MayTell (TellsBad why status wrote) status wrote
TellsFault fault.NoMemory status wrote = (status ≡ exit.NoMemory) × (wrote ≡ [])

-- The store's rows, which were read at the clock's one reading, say no farm: the first one at fault was told, nothing was taken, and the store is as it was.
-- No seat is given back.
pub record IsBadStore (words : List (List ℕ)) (status : Status) (call : Call) (seat : Option (Seat (Unit {0}) View))
    (bad : WordForm → RecoverFault → Type 0) (untouched : Type 0) : Type 0 where
  pub form : WordForm
  pub fault : RecoverFault
  pub reading : ℕ
  pub formed : form_of words ≡ Some form
  pub is_bad : bad form fault
  pub told : TellsBad fault status call.written
  pub readings : call.readings ≡ reading ∷ []
  pub none_taken : call.taken ≡ []
  pub no_lines : call.exchanges ≡ []
  pub kept : untouched
  pub no_seat : seat ≡ None

-- the input was read to its end, each of its lines answered, or the job of a load finished; or memory ran out, and nothing was taken or written
abbrev pub EndsEarly : Status → Call → Type 0
EndsEarly status call = (status ≡ exit.Done) ⊎ ((status ≡ exit.NoMemory) × (call.taken ≡ []) × (call.written ≡ []))

-- or the job of a load isn't finished after the most rounds
abbrev pub EndsWell : WordForm → Status → Call → Type 0
EndsWell (Load n) status call = EndsEarly status call ⊎ (status ≡ exit.Spent)
EndsWell other status call = EndsEarly status call

-- A call for these arguments that answered this status. Of its keeper it is known which farm is said, or why none is, that it is the one that was handed
-- in, that its rows are as they were, that they weren't migrated, how it went on line by line, or that it holds a farm. It was a session, a load, or none.
-- But for a load, status 8 comes exactly where the bytes that one session takes are spent and no write failed. Where the arguments are valid and a farm is
-- said, nothing but an I/O error, a fault of the store and that limit ends the call early. A seat is given back where a farm was opened, and its journal
-- has exactly what was recorded.
pub record IsCall (words : List (List ℕ)) (status : Status) (before after : Streams) (call : Call) (seat : Option (Seat (Unit {0}) View))
    (says : WordForm → Farm → Type 0) (bad : WordForm → RecoverFault → Type 0) (same untouched : Type 0) (unmigrated : Farm → Type 0)
    (goes_on : Farm → List Exchange → Type 0) (holds : Farm → Type 0) : Type 0 where
  pub moved : HasMoved before after call
  pub session : IsUnstarted status before after call seat same ⊎ (IsUnopened words status call seat says untouched unmigrated holds
      ⊎ (IsBadStore words status call seat bad untouched
      ⊎ (IsSession words status call after.unread before.store_faults after.store_faults seat says goes_on holds
      ⊎ IsLoadCall words status call before.store_faults after.store_faults seat says holds)))
  pub spent : is_load (form_of words) ≡ false → (status ≡ exit.Spent) ↔ ((length call.taken ≡ BYTE_LIMIT) × (status ≡ exit.WriteFailed → ⊥))
  pub complete : (form : WordForm) → form_of words ≡ Some form → ((fault : RecoverFault) → bad form fault → ⊥)
      → (HasRisen before.store_faults after.store_faults → ⊥) → (HasRisen before.read_faults after.read_faults → ⊥)
      → (HasRisen before.write_faults after.write_faults → ⊥) → length call.taken < BYTE_LIMIT → EndsWell form status call
