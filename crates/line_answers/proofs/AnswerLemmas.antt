-- The answer to a line, by cases.
use Rattle.std.proofs.Common.{◌≡◌, ℕ, Bool, true, false, ◌<◌, ◌≤◌, ◌^◌, cond, List, [], ◌∷◌, ◌++◌, length, refl, sym, ap, ◌∙◌, subst, Option, None, Result, Ok, Err, IfOk, inl, inr}
use Rattle.std.proofs.lemmas.Bool.{le-ltb, lt-ltb, false≢true}
use Rattle.farm_types.specs.declared.entry.Act.{Act}
use Rattle.farm_types.specs.declared.entry.Act.TheVariants as act
use Rattle.farm_types.specs.declared.entry.Entry.{Entry}
use Rattle.farm_types.specs.declared.refusal.Refusal.{Refusal}
use Rattle.farm_lines.specs.declared.asked.Asked.{Asked}
use Rattle.farm_lines.specs.declared.asked.Asked.TheVariants as asked
use Rattle.farm_lines.specs.declared.query.Query.{Query}
use Rattle.farm_lines.specs.declared.reply.ListReply.{ListReply}
use Rattle.farm_lines.specs.declared.reply.Reply.{Reply}
use Rattle.farm_lines.specs.declared.reply.Reply.TheVariants as reply
use Rattle.farm_lines.specs.declared.report.Report.{Report}
use Rattle.farm_lines.specs.declared.request.Request.{Request}
use Rattle.farm_lines.specs.declared.request.Request.TheVariants as request
use Rattle.farm_lines.specs.declared.request.RequestFault.{RequestFault}
use Rattle.farm_lines.specs.declared.request.RequestFault.TheVariants as fault
use Rattle.dispatcher.specs.farm_core.specs.Change.{after_change}
use Rattle.dispatcher.specs.farm_core.specs.Change.{Makes, Prepares}
use Rattle.dispatcher.specs.farm_core.specs.declared.change.Change.{Change}
use Rattle.farm_types.specs.declared.fault.FarmFault.{FarmFault}
use Rattle.farm_types.specs.declared.fault.FarmFault.TheVariants as prepare
use Rattle.farm_types.specs.EntryAnswers.{answer_of}
use Rattle.farm_types.specs.Farm.{Farm}
use Rattle.farm_types.specs.Formed.{IsFormed}
use Rattle.farm_lines.specs.Reply.{ok_reply, reply_text}
use Rattle.farm_lines.specs.Lists.{page_listed}
use Rattle.farm_lines.specs.Request.{RequestError, request_of}
use Rattle.farm_types.specs.Step.{HasCondition, refusal_of, after}
use Rattle.farm_lines.specs.Asked.{IsFormedAsked, asked_of, entry_at, heard_entry}
use Rattle.farm_lines.specs.Transcript.{Mark, Plain, Memory, Store, Answered, answer_to, asked_answer, entry_answer, is_store_mark, list_reply, only_reply, request_answer, unless_memory}
use Rattle.report_codec.specs.Reads.{Fails}
use Rattle.dispatcher.specs.recorder.specs.Recording.{ChangesNone, ChangesRows, IsOfEntry, IsUnstored}
use Rattle.line_answers.specs.Asking.{Asks, IsNoBooking, IsUnbooked}
use Rattle.line_answers.specs.declared.hindered.Hindered.{Hindered}
use Rattle.line_answers.specs.LineAnswers.{AnswersAsked, AnswersEntry, AnswersLine, AnswersReport, Going, IsAnswer, IsMarked, IsMarkedAnswer, IsRecorded, IsUnprepared, MayStore, MayStoreEntry, fault_reply, reported}
use Rattle.line_answers.specs.declared.reply_line.ReplyLine.{ReplyLine}
use Rattle.line_answers.specs.declared.reply_line.ReplyLine.TheVariants as reply_line
use Rattle.line_answers.specs.Lines.{IsLineOf, is_store_line, recorded_by, shown}
use Rattle.farm_lines.specs.declared.limits.TheConstants.{LINE_LIMIT}

-- a line within the limit is answered by what it asks
pub line_within : (f : Farm) (line : List ℕ) (moment : ℕ) (mark : Mark) → length line ≤ LINE_LIMIT
    → answer_to f line moment mark ≡ unless_memory mark (request_answer f moment mark (request_of line))
unfolding answer_to
line_within f line moment mark h = ap (λ b. cond b (only_reply reply.TooLong) (unless_memory mark (request_answer f moment mark (request_of line)))) (le-ltb LINE_LIMIT (length line) h)

-- a line past the limit is told so
pub long_answer : (f : Farm) (line : List ℕ) (moment : ℕ) (mark : Mark) → LINE_LIMIT < length line → answer_to f line moment mark ≡ only_reply reply.TooLong
unfolding answer_to
long_answer f line moment mark h =
    ap (λ b. cond b (only_reply reply.TooLong) (unless_memory mark (request_answer f moment mark (request_of line)))) (lt-ltb LINE_LIMIT (length line) h)

-- what is answered by a mark is answered by it in other words
retold : (f new : Farm) (text : List ℕ) (goes : Going) (one other : Mark → Answered) (may later : Mark → Type 0)
    → ((mark : Mark) → one mark ≡ other mark) → ((mark : Mark) → may mark → later mark)
    → IsMarkedAnswer f one may new text goes → IsMarkedAnswer f other later new text goes
retold f new text goes one other may later same stands answered = record {
  mark = answered.mark;
  answer = subst (λ (a : Answered). IsAnswer f a new text) (same answered.mark) answered.answer;
  may_stand = stands answered.mark answered.may_stand;
  keeper =
      subst (λ (a : Answered). goes a.entries (other answered.mark).entries (is_store_mark answered.mark)) (same Plain)
      (subst (λ (a : Answered). goes (one Plain).entries a.entries (is_store_mark answered.mark)) (same answered.mark) answered.keeper);
}

-- and where a keeper that went on so went on so too
pub went_as : (f new : Farm) (text : List ℕ) (answers : Mark → Answered) (may : Mark → Type 0) (one other : Going)
    → ((all done : List Entry) (failed : Bool) → one all done failed → other all done failed) → IsMarkedAnswer f answers may new text one
    → IsMarkedAnswer f answers may new text other
went_as f new text answers may one other to answered = record {
  mark = answered.mark;
  answer = answered.answer;
  may_stand = answered.may_stand;
  keeper = to (answers Plain).entries (answers answered.mark).entries (is_store_mark answered.mark) answered.keeper;
}

-- a line is answered by what is asked
answered_line : (f : Farm) (line : List ℕ) (moment : ℕ) (new : Farm) (text : List ℕ) (goes : Going) (what : Request) → length line ≤ LINE_LIMIT
    → request_of line ≡ Ok what → AnswersAsked f (asked_of what) moment new text goes → AnswersLine f line moment new text goes
answered_line f line moment new text goes what fits asks answered =
    retold f new text goes (λ mark. unless_memory mark (asked_answer f moment mark (asked_of what))) (answer_to f line moment) (MayStore f moment (asked_of what))
    (IsMarked f line moment)
    (λ mark. sym (line_within f line moment mark fits ∙ ap (λ r. unless_memory mark (request_answer f moment mark r)) asks)) (λ mark may is. (what, asks, may)) answered

-- ---- a reply alone

-- memory ran out before anything was recorded
pub unrecorded : (f : Farm) (text : List ℕ) (goes : Going) (answers : Mark → Answered) (may : Mark → Type 0) → goes (answers Plain).entries [] false → may Memory
    → text ≡ reply_text reply.NoMemory ++ 10 ∷ [] → IsMarkedAnswer f (λ mark. unless_memory mark (answers mark)) may f text goes
unrecorded f text goes answers may keeper stands line = record { mark = Memory; answer = record { farm = refl; text = line }; may_stand = stands; keeper = keeper }

-- and before the keeper was asked
pub unreplied : (f : Farm) (text : List ℕ) (goes : Going) → ((all : List Entry) → goes all [] false) → (answers : Mark → Answered) (may : Mark → Type 0) → may Memory
    → text ≡ reply_text reply.NoMemory ++ 10 ∷ [] → IsMarkedAnswer f (λ mark. unless_memory mark (answers mark)) may f text goes
unreplied f text goes still answers may stands line = unrecorded f text goes answers may (still (answers Plain).entries) stands line

-- what is only replied, or that memory ran out
pub replied : (f : Farm) (told : Reply) (text : List ℕ) (goes : Going) → ((all : List Entry) → goes all [] false) → (answers : Mark → Answered) (may : Mark → Type 0) → may Plain → may Memory
    → answers Plain ≡ only_reply told → IsLineOf told text → IsMarkedAnswer f (λ mark. unless_memory mark (answers mark)) may f text goes
replied f told text goes still answers may plain memory is (inl e) = record {
  mark = Plain;
  answer = subst (λ (a : Answered). IsAnswer f a f text) (sym is) (record { farm = refl; text = e });
  may_stand = plain;
  keeper = subst (λ (a : Answered). goes a.entries a.entries false) (sym is) (still []);
}
replied f told text goes still answers may plain memory is (inr e) = unreplied f text goes still answers may memory e

-- ---- a malformed line

-- memory ran out, in any form
no_memory : (text : List ℕ) → IsLineOf reply.NoMemory text → text ≡ reply_text reply.NoMemory ++ 10 ∷ []
no_memory text (inl e) = e
no_memory text (inr e) = e

faulted : (f : Farm) (moment : ℕ) (found : RequestFault) (read : Result Request RequestError) (text : List ℕ) (goes : Going) → ((all : List Entry) → goes all [] false) → (may : Mark → Type 0) → may Plain → may Memory
    → Fails found read → IsLineOf (fault_reply found) text → IsMarkedAnswer f (λ mark. unless_memory mark (request_answer f moment mark read)) may f text goes
faulted f moment (fault.BadLine field) read text goes still may plain memory fails line =
    replied f (reply.BadLine field) text goes still (λ mark. request_answer f moment mark read) may plain memory (ap (request_answer f moment Plain) fails) line
faulted f moment (fault.BadRange layer found) read text goes still may plain memory fails line =
    replied f (reply.BadRange layer found) text goes still (λ mark. request_answer f moment mark read) may plain memory (ap (request_answer f moment Plain) fails) line
faulted f moment (fault.BadAmount field) read text goes still may plain memory fails line =
    replied f (reply.BadAmount field) text goes still (λ mark. request_answer f moment mark read) may plain memory (ap (request_answer f moment Plain) fails) line
faulted f moment fault.NoMemory read text goes still may plain memory fails line =
    unreplied f text goes still (λ mark. request_answer f moment mark read) may memory (no_memory text line)

-- its reply tells the fault, or that memory ran out
faulted_line : (f : Farm) (line : List ℕ) (moment : ℕ) (found : RequestFault) (text : List ℕ) (goes : Going) → ((all : List Entry) → goes all [] false) → length line ≤ LINE_LIMIT
    → Fails found (request_of line) → IsLineOf (fault_reply found) text → AnswersLine f line moment f text goes
faulted_line f line moment found text goes still fits fails told =
    retold f f text goes (λ mark. unless_memory mark (request_answer f moment mark (request_of line))) (answer_to f line moment) (IsMarked f line moment) (IsMarked f line moment)
    (λ mark. sym (line_within f line moment mark fits)) (λ mark may. may)
    (faulted f moment found (request_of line) text goes still (IsMarked f line moment) (λ is. absurd (false≢true is)) (λ is. absurd (false≢true is)) fails told)

-- ---- what is asked

pub asked_line : (f : Farm) (line : List ℕ) (moment : ℕ) (new : Farm) (text : List ℕ) (goes : Going) (what : Asked) → length line ≤ LINE_LIMIT
    → Asks line (Ok what) → AnswersAsked f what moment new text goes → AnswersLine f line moment new text goes
asked_line f line moment new text goes what fits asks answered =
    answered_line f line moment new text goes asks.0 fits asks.1 (subst (λ (a : Asked). AnswersAsked f a moment new text goes) asks.2 answered)

pub unasked_line : (f : Farm) (line : List ℕ) (moment : ℕ) (told : ReplyLine) (goes : Going) → ((all : List Entry) → goes all [] false)
    → length line ≤ LINE_LIMIT → Asks line (Err told) → AnswersLine f line moment f (shown told) goes
unasked_line f line moment told goes still fits asks = faulted_line f line moment asks.0 (shown told) goes still fits asks.1 asks.2

-- ---- a request of one entry

-- requests ask for no booking
pub unbooked : (what : Request) → IsUnbooked (asked_of what)
unbooked request.Tick = tt
unbooked what = tt

pub no_booking : (f : Farm) (does : Act) → IsNoBooking does → HasCondition f does
no_booking f (act.Book slot host) none = absurd none
no_booking f does none = tt

-- the entry of a report is within its forms and limits
pub report_formed : (moment : ℕ) (what : Asked) (report : Report) → moment < 2 ^ 64 → what ≡ asked.Report report → IsFormedAsked what → IsFormed (heard_entry report moment)
report_formed moment what report low is formed = record { moment_within = low; act_formed = subst IsFormedAsked is formed }

-- a report is answered as one
pub answered_report : (f new : Farm) (moment : ℕ) (text : List ℕ) (goes : Going) (what : Asked) (report : Report) → what ≡ asked.Report report
    → AnswersReport f report moment new text goes → AnswersAsked f what moment new text goes
answered_report f new moment text goes what report is answered = subst (λ (a : Asked). AnswersAsked f a moment new text goes) (sym is) answered

-- an act is answered by its entry
pub answered_act : (f new : Farm) (moment : ℕ) (text : List ℕ) (goes : Going) (what : Asked) (does : Act) → what ≡ asked.Act does
    → AnswersEntry f (entry_at moment does) new text goes → AnswersAsked f what moment new text goes
answered_act f new moment text goes what does is answered = subst (λ (a : Asked). AnswersAsked f a moment new text goes) (sym is) answered

-- an act's entry is within its forms and limits, and has what it asks for
pub act_formed : (moment : ℕ) (what : Asked) (does : Act) → moment < 2 ^ 64 → what ≡ asked.Act does → IsFormedAsked what → IsFormed (entry_at moment does)
act_formed moment what does low is formed = record { moment_within = low; act_formed = subst IsFormedAsked is formed }

pub act_unbooked : (what : Asked) (does : Act) → what ≡ asked.Act does → IsUnbooked what → IsNoBooking does
act_unbooked what does is none = subst IsUnbooked is none

-- the line of a list, or of its refusal
pub listed_page : (listed : Result ListReply Refusal) (page : ListReply) (text : List ℕ) → listed ≡ Ok page → IsLineOf (reply.List page) text → IsLineOf (list_reply listed) text
listed_page listed page text is line = subst (λ (l : Result ListReply Refusal). IsLineOf (list_reply l) text) (sym is) line

pub listed_refusal : (listed : Result ListReply Refusal) (why : Refusal) (text : List ℕ) → listed ≡ Err why → IsLineOf (reply.Refused why) text → IsLineOf (list_reply listed) text
listed_refusal listed why text is line = subst (λ (l : Result ListReply Refusal). IsLineOf (list_reply l) text) (sym is) line

-- a list is only replied to, by what is read of the farm
pub answered_list : (f read : Farm) (moment : ℕ) (text : List ℕ) (goes : Going) → ((all : List Entry) → goes all [] false) → (what : Asked) (query : Query) → what ≡ asked.List query → read ≡ f
    → IsLineOf (list_reply (page_listed read query)) text → AnswersAsked f what moment f text goes
answered_list f read moment text goes still what query is same line =
    subst (λ (a : Asked). AnswersAsked f a moment f text goes) (sym is) (
    replied f (list_reply (page_listed f query)) text goes still (λ mark. asked_answer f moment mark (asked.List query)) (MayStore f moment (asked.List query)) refl refl refl
    (subst (λ (g : Farm). IsLineOf (list_reply (page_listed g query)) text) same line)
    )

-- no change was prepared for the entry
pub unprepared_entry : (f : Farm) (e : Entry) (found : FarmFault) (text : List ℕ) (goes : Going) → ((all : List Entry) → goes all [] false) → Prepares f e (Err found) → IsUnprepared found text
    → AnswersEntry f e f text goes
unprepared_entry f e (prepare.Refused why) text goes still refuses line =
    replied f (reply.Refused why) text goes still (λ mark. entry_answer f e mark (refusal_of f e)) (MayStoreEntry f e) tt tt (ap (entry_answer f e Plain) refuses) line
unprepared_entry f e prepare.NoMemory text goes still fails line = unreplied f text goes still (λ mark. entry_answer f e mark (refusal_of f e)) (MayStoreEntry f e) tt line

-- the farm took the entry
taken_entry : (f new : Farm) (e : Entry) (text : List ℕ) (goes : Going) → goes (e ∷ []) (e ∷ []) false → refusal_of f e ≡ None → new ≡ after f e
    → text ≡ reply_text (ok_reply e.act (answer_of f e)) ++ 10 ∷ [] → AnswersEntry f e new text goes
taken_entry f new e text goes keeper accepts is line = record {
  mark = Plain;
  answer = subst (λ (a : Answered). IsAnswer f a new text) (sym (ap (entry_answer f e Plain) accepts)) (record { farm = is; text = line });
  may_stand = tt;
  keeper = subst (λ (a : Answered). goes a.entries a.entries false) (sym (ap (entry_answer f e Plain) accepts)) keeper;
}

-- the store failed at the entry
failed_entry : (f : Farm) (e : Entry) (text : List ℕ) (goes : Going) → refusal_of f e ≡ None → ChangesRows f (after f e) → text ≡ reply_text reply.Store ++ 10 ∷ []
    → goes (e ∷ []) [] true → AnswersEntry f e f text goes
failed_entry f e text goes accepts changes line failed = record {
  mark = Store;
  answer = subst (λ (a : Answered). IsAnswer f a f text) (sym (ap (entry_answer f e Store) accepts)) (record { farm = refl; text = line });
  may_stand = record { accepted = accepts; changes = changes };
  keeper =
      subst (λ (a : Answered). goes a.entries (entry_answer f e Store (refusal_of f e)).entries true) (sym (ap (entry_answer f e Plain) accepts))
      (subst (λ (a : Answered). goes (e ∷ []) a.entries true) (sym (ap (entry_answer f e Store) accepts)) failed);
}

-- memory ran out as it was recorded
asked_entry : (f : Farm) (e : Entry) (goes : Going) → refusal_of f e ≡ None → goes (e ∷ []) [] false → goes (entry_answer f e Plain (refusal_of f e)).entries [] false
asked_entry f e goes accepts keeper = subst (λ (a : Answered). goes a.entries [] false) (sym (ap (entry_answer f e Plain) accepts)) keeper

-- a change of the entry was recorded, or the store failed or memory ran out for it
pub recorded_entry : (f new : Farm) (e : Entry) (change : Change) (written : List ℕ) (told : ReplyLine) (goes : Going) → Makes f e change
    → written ≡ reply_text (ok_reply e.act (answer_of f e)) ++ 10 ∷ [] → IsRecorded f (after_change f change) written new told
    → goes (e ∷ []) (recorded_by e told) (is_store_line told) → AnswersEntry f e new (shown told) goes
recorded_entry f new e change written (reply_line.Written line) goes makes is recorded keeper =
    taken_entry f new e line goes keeper makes.planned.accepted (recorded.0 ∙ makes.planned.farm) (recorded.1 ∙ is)
recorded_entry f new e change written reply_line.Store goes makes is recorded keeper =
    subst (λ (g : Farm). AnswersEntry f e g (shown reply_line.Store) goes) (sym recorded.0)
    (failed_entry f e (shown reply_line.Store) goes makes.planned.accepted (subst (ChangesRows f) makes.planned.farm recorded.1) refl keeper)
recorded_entry f new e change written reply_line.NoMemory goes makes is recorded keeper =
    subst (λ (g : Farm). AnswersEntry f e g (shown reply_line.NoMemory) goes) (sym recorded.1)
    (unrecorded f (shown reply_line.NoMemory) goes (λ mark. entry_answer f e mark (refusal_of f e)) (MayStoreEntry f e) (asked_entry f e goes makes.planned.accepted keeper) tt refl)
recorded_entry f new e change written reply_line.TooLong goes makes is recorded keeper =
    subst (λ (g : Farm). AnswersEntry f e g (shown reply_line.TooLong) goes) (sym recorded.1)
    (unrecorded f (shown reply_line.TooLong) goes (λ mark. entry_answer f e mark (refusal_of f e)) (MayStoreEntry f e) (asked_entry f e goes makes.planned.accepted keeper) tt (ap shown recorded.0))

-- the change of an entry that is no booking is that of a legal entry
pub entry_made : (f : Farm) (e : Entry) (change : Change) → HasCondition f e.act → IsFormed e → Makes f e change → IsOfEntry f e change
entry_made f e change condition formed makes = record { legal = record { formed = formed; accepted = makes.planned.accepted; condition = condition }; makes = makes }

-- what came of it, where nothing hindered it
pub recorded_answer : (f new : Farm) (e : Entry) (change : Change) (written : List ℕ) (came : Result ReplyLine Hindered) (goes : ReplyLine → Going) → Makes f e change
    → written ≡ reply_text (ok_reply e.act (answer_of f e)) ++ 10 ∷ [] → IfOk came (λ told. IsRecorded f (after_change f change) written new told)
    → IfOk came (λ told. goes told (e ∷ []) (recorded_by e told) (is_store_line told)) → IfOk came (λ told. AnswersEntry f e new (shown told) (goes told))
recorded_answer f new e change written (Ok told) goes makes is recorded keeper = recorded_entry f new e change written told (goes told) makes is recorded keeper
recorded_answer f new e change written (Err why) goes makes is recorded keeper = tt

-- ---- what changes no row

-- an entry that the farm takes is all that is recorded for it, so that it leaves each row
pub leaves_rows : (f : Farm) (e : Entry) → ChangesNone f (entry_answer f e Plain (refusal_of f e)).entries → IsUnstored f e
leaves_rows f e none accepts = (subst (λ (o : Option Refusal). ChangesNone f (entry_answer f e Plain o).entries) accepts none).0

-- an act that changes no row
pub unstored_act : (f : Farm) (moment : ℕ) (what : Asked) (does : Act) → what ≡ asked.Act does → ChangesNone f (asked_answer f moment Plain what).entries
    → IsUnstored f (entry_at moment does)
unstored_act f moment what does is none = leaves_rows f (entry_at moment does) (subst (λ (a : Asked). ChangesNone f (asked_answer f moment Plain a).entries) is none)

-- a report that changes none
pub unstored_report : (f : Farm) (moment : ℕ) (what : Asked) (report : Report) → what ≡ asked.Report report → ChangesNone f (asked_answer f moment Plain what).entries
    → ChangesNone f (reported f report moment Plain).entries
unstored_report f moment what report is none = subst (λ (a : Asked). ChangesNone f (asked_answer f moment Plain a).entries) is none

-- a line that changes none
unstored_line : (f : Farm) (line : List ℕ) (moment : ℕ) (what : Request) → length line ≤ LINE_LIMIT → request_of line ≡ Ok what
    → ChangesNone f (answer_to f line moment Plain).entries → ChangesNone f (asked_answer f moment Plain (asked_of what)).entries
unstored_line f line moment what fits asks none =
    subst (λ (a : Answered). ChangesNone f a.entries) (line_within f line moment Plain fits ∙ ap (request_answer f moment Plain) asks) none

pub unstored_asked : (f : Farm) (line : List ℕ) (moment : ℕ) (what : Asked) → length line ≤ LINE_LIMIT → Asks line (Ok what)
    → ChangesNone f (answer_to f line moment Plain).entries → ChangesNone f (asked_answer f moment Plain what).entries
unstored_asked f line moment what fits asks none =
    subst (λ (a : Asked). ChangesNone f (asked_answer f moment Plain a).entries) (sym asks.2) (unstored_line f line moment asks.0 fits asks.1 none)
