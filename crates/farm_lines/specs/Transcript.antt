-- What is answered to lines: the entries that a line makes, its reply, and the bytes of a whole session.
use Rattle.std.specs.Prelude.{ℕ, Bool, true, false, List, [], ◌∷◌, ◌++◌, map, take, length, nat_lt, Option, None, Some, Result, Ok, Err, if◌then◌else◌}
use Rattle.farm_types.specs.declared.entry.Entry.{Entry}
use Rattle.farm_types.specs.declared.refusal.Refusal.{Refusal}
use Rattle.farm_types.specs.declared.dispatch.Cut.{Cut}
use Rattle.farm_types.specs.declared.dispatch.Cut.TheVariants as cut
use Rattle.farm_lines.specs.declared.asked.Asked.{Asked}
use Rattle.farm_lines.specs.declared.asked.Asked.TheVariants as asked
use Rattle.farm_lines.specs.declared.reply.ListReply.{ListReply}
use Rattle.farm_lines.specs.declared.reply.Reply.{Reply}
use Rattle.farm_lines.specs.declared.reply.Reply.TheVariants as reply
use Rattle.farm_lines.specs.declared.report.Report.{Report}
use Rattle.farm_lines.specs.declared.request.Request.{Request}
use Rattle.farm_types.specs.Farm.{Farm, host_named}
use Rattle.farm_types.specs.Step.{refusal_of, after}
use Rattle.farm_types.specs.Run.{run_of}
use Rattle.farm_types.specs.Dispatch.{round_for}
use Rattle.farm_lines.specs.Asked.{asked_of, entry_at, heard_entry}
use Rattle.farm_lines.specs.Lists.{page_listed}
use Rattle.farm_lines.specs.Request.{RequestError, request_of}
use Rattle.farm_types.specs.EntryAnswers.{answer_of}
use Rattle.farm_lines.specs.Reply.{reply_text, error_reply, ok_reply, report_reply}
use Rattle.farm_lines.specs.declared.limits.TheConstants.{LINE_LIMIT}

-- What the outside did while a line was answered: nothing; memory ran out before anything was recorded, or the store failed there; memory ran out
-- after so many bookings of the round, or the store failed there; or memory ran out for the reply's text, after the whole round, or after so many
-- bookings where one of the two had ended it.
pub data Mark : Type 0 where
  Plain : Mark
  Memory : Mark
  Store : Mark
  CutAfter : ℕ → Mark
  StoreAfter : ℕ → Mark
  LatePlain : Mark
  LateCut : ℕ → Mark
  LateStore : ℕ → Mark

-- the store failed
abbrev pub is_store_mark : Mark → Bool
is_store_mark Store = true
is_store_mark (StoreAfter k) = true
is_store_mark (LateStore k) = true
is_store_mark mark = false

-- what a line makes: the entries recorded, in order, and the reply
pub record Answered : Type 0 where
  pub entries : List Entry
  pub reply : Reply

abbrev pub only_reply : Reply → Answered
only_reply r = record { entries = []; reply = r }

-- ---- reports

-- the entry of a report, the bookings after it, and the reply over the farm that they leave
abbrev pub with_round : Farm → ℕ → Report → Entry → List Entry → Cut → Answered
with_round f host report heard round ended = record { entries = heard ∷ round; reply = report_reply (run_of (after f heard) round) host report ended }

abbrev pub late : List Entry → Answered
late entries = record { entries = entries; reply = reply.NoMemory }

abbrev pub marked_answer : Farm → ℕ → Report → Entry → List Entry → Mark → Answered
marked_answer f host report heard round Plain = with_round f host report heard round cut.Whole
marked_answer f host report heard round Memory = only_reply reply.NoMemory
marked_answer f host report heard round Store = only_reply reply.Store
marked_answer f host report heard round (CutAfter k) = with_round f host report heard (take k round) cut.Memory
marked_answer f host report heard round (StoreAfter k) = with_round f host report heard (take k round) cut.Store
marked_answer f host report heard round LatePlain = late (heard ∷ round)
marked_answer f host report heard round (LateCut k) = late (heard ∷ take k round)
marked_answer f host report heard round (LateStore k) = late (heard ∷ take k round)

-- a report that the farm accepts is of a host that is there
abbrev pub accepted_answer : Farm → Report → ℕ → Mark → Option ℕ → Answered
accepted_answer f report moment mark None = only_reply reply.NoMemory
accepted_answer f report moment mark (Some host) =
    marked_answer f host report (heard_entry report moment) (round_for (after f (heard_entry report moment)) host moment) mark

abbrev pub report_answer : Farm → Report → ℕ → Mark → Option Refusal → Answered
report_answer f report moment mark (Some why) = only_reply (reply.Refused why)
report_answer f report moment mark None = accepted_answer f report moment mark (host_named f report.heard.host)

-- ---- other requests

-- one entry, and the reply of its numbers; or its refusal; or that the store failed
abbrev pub entry_answer : Farm → Entry → Mark → Option Refusal → Answered
entry_answer f e mark (Some why) = only_reply (reply.Refused why)
entry_answer f e Store None = only_reply reply.Store
entry_answer f e mark None = record { entries = e ∷ []; reply = ok_reply e.act (answer_of f e) }

-- the rows of a list, or its refusal
abbrev pub list_reply : Result ListReply Refusal → Reply
list_reply (Ok page) = reply.List page
list_reply (Err why) = reply.Refused why

-- ---- a line

-- What is made of what is asked. A list has no entry: the farm stays, its moment too.
abbrev pub asked_answer : Farm → ℕ → Mark → Asked → Answered
asked_answer f moment mark (asked.Report report) = report_answer f report moment mark (refusal_of f (heard_entry report moment))
asked_answer f moment mark (asked.Act does) = entry_answer f (entry_at moment does) mark (refusal_of f (entry_at moment does))
asked_answer f moment mark (asked.List query) = only_reply (list_reply (page_listed f query))

-- a malformed line, and a request
abbrev pub request_answer : Farm → ℕ → Mark → Result Request RequestError → Answered
request_answer f moment mark (Err error) = only_reply (error_reply error)
request_answer f moment mark (Ok what) = asked_answer f moment mark (asked_of what)

abbrev pub unless_memory : Mark → Answered → Answered
unless_memory Memory answered = only_reply reply.NoMemory
unless_memory mark answered = answered

-- what a line makes of the farm at a moment, by what the outside did
unfoldable pub answer_to : Farm → List ℕ → ℕ → Mark → Answered
answer_to f line moment mark =
    if nat_lt LINE_LIMIT (length line) then only_reply reply.TooLong
    else unless_memory mark (request_answer f moment mark (request_of line))

-- an exchange: one line, with the clock's reading and the mark by which its reply is given
pub record Exchange : Type 0 where
  pub line : List ℕ
  pub moment : ℕ
  pub mark : Mark

abbrev pub answer_at : Farm → Exchange → Answered
answer_at f t = answer_to f t.line t.moment t.mark

abbrev pub farm_next : Farm → Exchange → Farm
farm_next f t = run_of f (answer_at f t).entries

abbrev pub farm_after : Farm → List Exchange → Farm
farm_after f [] = f
farm_after f (t ∷ ts) = farm_after (farm_next f t) ts

-- the entries recorded, in order
abbrev pub entries_in : Farm → List Exchange → List Entry
entries_in f [] = []
entries_in f (t ∷ ts) = (answer_at f t).entries ++ entries_in (farm_next f t) ts

-- the replies, each with its newline
abbrev pub transcript : Farm → List Exchange → List ℕ
transcript f [] = []
transcript f (t ∷ ts) = reply_text (answer_at f t).reply ++ 10 ∷ transcript (farm_next f t) ts

abbrev pub lines_in : List Exchange → List (List ℕ)
lines_in ts = map (λ t. t.line) ts

abbrev pub moments_in : List Exchange → List ℕ
moments_in ts = map (λ t. t.moment) ts
