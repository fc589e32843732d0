-- A line makes at most an entry of its own and the bookings of one round.
use Rattle.std.proofs.Common.{◌≤◌, ◌-◌, ℕ, zero, suc, Bool, true, false, cond, ◌&&◌, List, [], ◌∷◌, length, take, length-take, Option, None, Some, Result, Ok, Err, arith}
use Rattle.std.specs.Prelude.{nat_lt}
use Rattle.farm_types.specs.declared.dispatch.Candidate.{Candidate}
use Rattle.farm_types.specs.declared.entry.Entry.{Entry}
use Rattle.farm_types.specs.declared.limits.TheConstants.{BOOKINGS_EACH}
use Rattle.farm_types.specs.declared.refusal.Refusal.{Refusal}
use Rattle.farm_types.specs.Booking.{may_book}
use Rattle.farm_types.specs.Dispatch.{book_entry, plan_for, round_for, round_from}
use Rattle.farm_types.specs.Farm.{Farm, host_named}
use Rattle.farm_types.specs.Step.{after, refusal_of}
use Rattle.farm_lines.specs.declared.asked.Asked.{Asked}
use Rattle.farm_lines.specs.declared.asked.Asked.TheVariants as asked
use Rattle.farm_lines.specs.declared.limits.TheConstants.{LINE_LIMIT}
use Rattle.farm_lines.specs.declared.reply.Reply.TheVariants.{TooLong}
use Rattle.farm_lines.specs.declared.report.Report.{Report}
use Rattle.farm_lines.specs.declared.request.Request.{Request}
use Rattle.farm_lines.specs.Asked.{asked_of, entry_at, heard_entry}
use Rattle.farm_lines.specs.Request.{RequestError, request_of}
use Rattle.farm_lines.specs.Transcript.{Answered, Mark, Plain, Memory, Store, CutAfter, StoreAfter, LatePlain, LateCut, LateStore, accepted_answer, answer_to, asked_answer, entry_answer, marked_answer, only_reply, report_answer, request_answer, unless_memory}
use Rattle.line_answers.specs.LineAnswers.{reported}
use Rattle.line_answers.specs.declared.limits.TheConstants.{ENTRIES_EACH}

abbrev IsFew : Answered → Type 0
IsFew answered = length answered.entries ≤ ENTRIES_EACH

-- ---- a report

round_few : (left : ℕ) (f : Farm) (moment : ℕ) (cs : List Candidate) → length (round_from left f moment cs) ≤ left
round_few left f moment [] = omega arith
round_few zero f moment (c ∷ cs) = round_few zero f moment cs
round_few (suc k) f moment (c ∷ cs) =
    by (nat_lt 0 (suc k) && may_book f c.slot c.host) (round_few (suc k - 1) (after f (book_entry c moment)) moment cs) (round_few (suc k) f moment cs)
  where
    by : (b : Bool) → length (round_from (suc k - 1) (after f (book_entry c moment)) moment cs) ≤ suc k - 1 → length (round_from (suc k) f moment cs) ≤ suc k
        → length (cond b (book_entry c moment ∷ round_from (suc k - 1) (after f (book_entry c moment)) moment cs) (round_from (suc k) f moment cs)) ≤ suc k
    by true booked passed = omega (arith, booked)
    by false booked passed = passed

front_few : (k : ℕ) (round : List Entry) → length round ≤ BOOKINGS_EACH → length (take k round) ≤ BOOKINGS_EACH
front_few k round few = omega (arith, length-take k round, few)

marked_few : (f : Farm) (host : ℕ) (report : Report) (heard : Entry) (round : List Entry) (mark : Mark) → length round ≤ BOOKINGS_EACH
    → IsFew (marked_answer f host report heard round mark)
marked_few f host report heard round Plain few = omega (arith, few)
marked_few f host report heard round Memory few = omega arith
marked_few f host report heard round Store few = omega arith
marked_few f host report heard round (CutAfter k) few = omega (arith, front_few k round few)
marked_few f host report heard round (StoreAfter k) few = omega (arith, front_few k round few)
marked_few f host report heard round LatePlain few = omega (arith, few)
marked_few f host report heard round (LateCut k) few = omega (arith, front_few k round few)
marked_few f host report heard round (LateStore k) few = omega (arith, front_few k round few)

accepted_few : (f : Farm) (report : Report) (moment : ℕ) (mark : Mark) (host : Option ℕ) → IsFew (accepted_answer f report moment mark host)
accepted_few f report moment mark None = omega arith
accepted_few f report moment mark (Some host) =
    let heard = heard_entry report moment in
    marked_few f host report heard (round_for (after f heard) host moment) mark (round_few BOOKINGS_EACH (after f heard) moment (plan_for (after f heard) host))

report_few : (f : Farm) (report : Report) (moment : ℕ) (mark : Mark) (why : Option Refusal) → IsFew (report_answer f report moment mark why)
report_few f report moment mark (Some why) = omega arith
report_few f report moment mark None = accepted_few f report moment mark (host_named f report.heard.host)

unless_few : (mark : Mark) (answered : Answered) → IsFew answered → IsFew (unless_memory mark answered)
unless_few Memory answered few = omega arith
unless_few mark answered few = few

pub reported_few : (f : Farm) (report : Report) (moment : ℕ) (mark : Mark) → length (reported f report moment mark).entries ≤ ENTRIES_EACH
reported_few f report moment mark =
    let heard = heard_entry report moment in
    unless_few mark (report_answer f report moment mark (refusal_of f heard)) (report_few f report moment mark (refusal_of f heard))

-- ---- a line

entry_few : (f : Farm) (e : Entry) (mark : Mark) (why : Option Refusal) → IsFew (entry_answer f e mark why)
entry_few f e mark (Some why) = omega arith
entry_few f e Store None = omega arith
entry_few f e mark None = omega arith

asked_few : (f : Farm) (moment : ℕ) (mark : Mark) (what : Asked) → IsFew (asked_answer f moment mark what)
asked_few f moment mark (asked.Report report) = report_few f report moment mark (refusal_of f (heard_entry report moment))
asked_few f moment mark (asked.Act does) = entry_few f (entry_at moment does) mark (refusal_of f (entry_at moment does))
asked_few f moment mark (asked.List query) = omega arith

request_few : (f : Farm) (moment : ℕ) (mark : Mark) (read : Result Request RequestError) → IsFew (request_answer f moment mark read)
request_few f moment mark (Err error) = omega arith
request_few f moment mark (Ok what) = asked_few f moment mark (asked_of what)

pub line_few : (f : Farm) (line : List ℕ) (moment : ℕ) (mark : Mark) → length (answer_to f line moment mark).entries ≤ ENTRIES_EACH
unfolding answer_to
line_few f line moment mark = by (nat_lt LINE_LIMIT (length line)) (unless_few mark (request_answer f moment mark (request_of line)) (request_few f moment mark (request_of line)))
  where
    by : (b : Bool) → IsFew (unless_memory mark (request_answer f moment mark (request_of line)))
        → IsFew (cond b (only_reply TooLong) (unless_memory mark (request_answer f moment mark (request_of line))))
    by true few = omega arith
    by false few = few
