-- The entries that lines make are a legal run.
use Rattle.std.proofs.Common.{◌≡◌, ℕ, ◌<◌, ◌^◌, Bool, true, false, cond, List, [], ◌∷◌, take, refl, Option, None, Some, Result, Ok, Err, length}
use Rattle.std.specs.Prelude.{nat_lt}
use Rattle.std.specs.List.{All}
use Rattle.std.proofs.lemmas.List.Elements.{All-head, All-tail}
use Rattle.farm_types.specs.declared.entry.Entry.{Entry}
use Rattle.farm_types.specs.declared.refusal.Refusal.{Refusal}
use Rattle.farm_lines.specs.declared.report.Report.{Report}
use Rattle.farm_types.specs.Farm.{Farm, host_named}
use Rattle.farm_types.specs.Formed.{IsFormed}
use Rattle.farm_types.specs.Step.{HasCondition, refusal_of, after}
use Rattle.farm_types.specs.Run.{IsLegal}
use Rattle.farm_types.specs.Dispatch.{round_for, plan_for}
use Rattle.farm_law.proofs.LegalRuns.{legal_append, legal_round, legal_take}
use Rattle.farm_lines.specs.declared.request.Request.{Request}
use Rattle.farm_lines.specs.declared.asked.Asked.{Asked}
use Rattle.farm_lines.specs.declared.asked.Asked.TheVariants as asked
use Rattle.farm_lines.specs.Request.{RequestError, request_of}
use Rattle.farm_lines.specs.Asked.{IsFormedAt, asked_of, entry_at, heard_entry}
use Rattle.farm_lines.specs.Transcript.{Mark, Plain, Memory, Store, CutAfter, StoreAfter, LatePlain, LateCut, LateStore, Answered, Exchange, marked_answer, accepted_answer, report_answer, entry_answer, asked_answer, request_answer, unless_memory, answer_to, answer_at, farm_next, entries_in, only_reply}
use Rattle.farm_lines.specs.declared.reply.Reply.TheVariants as reply
use Rattle.farm_lines.proofs.RequestLemmas.{requests_formed}
use Rattle.line_answers.specs.Asking.{IsUnbooked}
use Rattle.line_answers.specs.LineAnswers.{reported}
use Rattle.line_answers.proofs.AnswerLemmas.{no_booking, unbooked}
use Rattle.farm_types.specs.declared.limits.TheConstants.{BOOKINGS_EACH}
use Rattle.farm_lines.specs.declared.limits.TheConstants.{LINE_LIMIT}

-- a report that the farm accepts, and its round
module _ (f : Farm) (report : Report) (moment : ℕ) (formed : IsFormed (heard_entry report moment)) where
  heard_legal : refusal_of f (heard_entry report moment) ≡ None → (es : List Entry) → IsLegal (after f (heard_entry report moment)) es → IsLegal f (heard_entry report moment ∷ es)
  heard_legal h es l = (record { formed = formed; accepted = h; condition = tt }, l)

  round_legal : (host : ℕ) → IsLegal (after f (heard_entry report moment)) (round_for (after f (heard_entry report moment)) host moment)
  round_legal host = legal_round BOOKINGS_EACH (after f (heard_entry report moment)) moment (plan_for (after f (heard_entry report moment)) host) formed.moment_within

  cut_legal : (host k : ℕ) → refusal_of f (heard_entry report moment) ≡ None
      → IsLegal f (heard_entry report moment ∷ take k (round_for (after f (heard_entry report moment)) host moment))
  cut_legal host k h = heard_legal h _ (legal_take (after f (heard_entry report moment)) k _ (round_legal host))

  marked_legal : (host : ℕ) (mark : Mark) → refusal_of f (heard_entry report moment) ≡ None
      → IsLegal f (marked_answer f host report (heard_entry report moment) (round_for (after f (heard_entry report moment)) host moment) mark).entries
  marked_legal host Plain h = heard_legal h _ (round_legal host)
  marked_legal host Memory h = tt
  marked_legal host Store h = tt
  marked_legal host (CutAfter k) h = cut_legal host k h
  marked_legal host (StoreAfter k) h = cut_legal host k h
  marked_legal host LatePlain h = heard_legal h _ (round_legal host)
  marked_legal host (LateCut k) h = cut_legal host k h
  marked_legal host (LateStore k) h = cut_legal host k h

  accepted_legal : (mark : Mark) (host : Option ℕ) → refusal_of f (heard_entry report moment) ≡ None → IsLegal f (accepted_answer f report moment mark host).entries
  accepted_legal mark None h = tt
  accepted_legal mark (Some host) h = marked_legal host mark h

  report_legal : (mark : Mark) (why : Option Refusal) → refusal_of f (heard_entry report moment) ≡ why → IsLegal f (report_answer f report moment mark why).entries
  report_legal mark (Some why) h = tt
  report_legal mark None h = accepted_legal mark (host_named f report.heard.host) h

-- an entry that the farm accepts
entry_legal : (f : Farm) (e : Entry) (mark : Mark) (why : Option Refusal) → IsFormed e → refusal_of f e ≡ why → HasCondition f e.act → IsLegal f (entry_answer f e mark why).entries
entry_legal f e mark (Some why) formed h condition = tt
entry_legal f e Store None formed h condition = tt
entry_legal f e mark None formed h condition = (record { formed = formed; accepted = h; condition = condition }, tt)

asked_legal : (f : Farm) (moment : ℕ) (mark : Mark) (what : Asked) → IsFormedAt moment what → IsUnbooked what → IsLegal f (asked_answer f moment mark what).entries
asked_legal f moment mark (asked.Report report) formed none = report_legal f report moment formed mark (refusal_of f (heard_entry report moment)) refl
asked_legal f moment mark (asked.Act does) formed none =
    entry_legal f (entry_at moment does) mark (refusal_of f (entry_at moment does)) formed refl (no_booking f does none)
asked_legal f moment mark (asked.List query) formed none = tt

request_legal : (f : Farm) (moment : ℕ) (mark : Mark) (read : Result Request RequestError) → ((what : Request) → read ≡ Ok what → IsFormedAt moment (asked_of what))
    → IsLegal f (request_answer f moment mark read).entries
request_legal f moment mark (Err error) formed = tt
request_legal f moment mark (Ok what) formed = asked_legal f moment mark (asked_of what) (formed what refl) (unbooked what)

unless_legal : (f : Farm) (mark : Mark) (answered : Answered) → IsLegal f answered.entries → IsLegal f (unless_memory mark answered).entries
unless_legal f Memory answered l = tt
unless_legal f mark answered l = l

-- what a report makes
pub reported_legal : (f : Farm) (report : Report) (moment : ℕ) (mark : Mark) → IsFormed (heard_entry report moment) → IsLegal f (reported f report moment mark).entries
reported_legal f report moment mark formed =
    unless_legal f mark (report_answer f report moment mark (refusal_of f (heard_entry report moment)))
    (report_legal f report moment formed mark (refusal_of f (heard_entry report moment)) refl)

-- what one line makes
answer_legal : (f : Farm) (line : List ℕ) (moment : ℕ) (mark : Mark) → moment < 2 ^ 64 → IsLegal f (answer_to f line moment mark).entries
unfolding answer_to
answer_legal f line moment mark low = by (nat_lt LINE_LIMIT (length line))
  where
    by : (b : Bool) → IsLegal f (cond b (only_reply reply.TooLong) (unless_memory mark (request_answer f moment mark (request_of line)))).entries
    by true = tt
    by false =
        unless_legal f mark (request_answer f moment mark (request_of line))
        (request_legal f moment mark (request_of line) (λ what is. requests_formed line what moment low is))

-- what all lines make, each at a moment of 64 bits
pub exchanges_legal : (f : Farm) (ts : List Exchange) → All (λ (t : Exchange). t.moment < 2 ^ 64) ts → IsLegal f (entries_in f ts)
exchanges_legal f [] each = tt
exchanges_legal f (t ∷ ts) each =
    legal_append f (answer_at f t).entries (entries_in (farm_next f t) ts) (answer_legal f t.line t.moment t.mark (All-head (λ (t : Exchange). t.moment < 2 ^ 64) t ts each))
    (exchanges_legal (farm_next f t) ts (All-tail (λ (t : Exchange). t.moment < 2 ^ 64) t ts each))
