-- What is replied to a line is within its forms and limits.
use Rattle.std.proofs.Common.{◌≡◌, ℕ, ◌<◌, ◌^◌, Bool, true, false, cond, List, length, Option, Some, None, Result, Ok, Err, refl, subst}
use Rattle.std.specs.Prelude.{nat_lt}
use Rattle.std.specs.List.{All}
use Rattle.std.specs.Option.{IfSome}
use Rattle.farm_types.specs.declared.dispatch.Cut.TheVariants as cut
use Rattle.farm_types.specs.declared.entry.Act.{Act}
use Rattle.farm_types.specs.declared.entry.Act.TheVariants as act
use Rattle.farm_types.specs.declared.refusal.Refusal.{Refusal}
use Rattle.farm_types.specs.Dispatch.{round_for}
use Rattle.farm_types.specs.EntryAnswers.{answer_of}
use Rattle.farm_types.specs.Farm.{Farm, host_named}
use Rattle.farm_types.specs.Formed.{IsFormed, IsFormedAct}
use Rattle.farm_types.specs.Kept.{IsKeptFarm}
use Rattle.farm_types.specs.Step.{act_refusal, after, follow_refusal, moment_of, refusal_of}
use Rattle.farm_law.proofs.KeptRuns.{neither}
use Rattle.farm_lines.specs.declared.limits.TheConstants.{LINE_LIMIT}
use Rattle.farm_lines.specs.declared.reply.Reply.TheVariants as reply
use Rattle.farm_lines.specs.declared.report.Report.{Report}
use Rattle.farm_lines.specs.declared.request.Request.{Request}
use Rattle.farm_lines.specs.declared.request.Request.TheVariants as request
use Rattle.farm_lines.specs.Asked.{asked_of, entry_at, heard_entry}
use Rattle.farm_lines.specs.FormedLines.{IsFormedAttempt, IsFormedRefusal, IsFormedReply, IsFormedRequest}
use Rattle.farm_lines.specs.Reply.{ok_reply}
use Rattle.farm_lines.specs.Request.{RequestError, request_of}
use Rattle.farm_lines.specs.Transcript.{Answered, CutAfter, LateCut, LatePlain, LateStore, Mark, Memory, Plain, Store, StoreAfter, accepted_answer, answer_to, asked_answer, entry_answer, marked_answer, only_reply, report_answer, request_answer, unless_memory}
use Rattle.reply_law.specs.SaidTexts.{SaysText}
use Rattle.reply_law.proofs.LineTexts.{fault_formed, request_formed}
use Rattle.reply_law.proofs.ListReplies.{list_formed}
use Rattle.reply_law.proofs.OkReplies.{ok_formed}
use Rattle.reply_law.proofs.Refusals.{refused_formed}
use Rattle.reply_law.proofs.Reports.{report_formed}
use Rattle.reply_law.proofs.Rounds.{kept_cut, kept_whole}

-- the reply is within its forms and limits
abbrev Replies : Answered → Type 0
Replies answered = IsFormedReply answered.reply

-- ---- reports

module _ (f : Farm) (kept : IsKeptFarm f) (report : Report) (moment : ℕ) (formed : IsFormed (heard_entry report moment)) (running : All IsFormedAttempt report.running) where
  marked_formed : (host : ℕ) (mark : Mark) → refusal_of f (heard_entry report moment) ≡ None
      → Replies (marked_answer f host report (heard_entry report moment) (round_for (after f (heard_entry report moment)) host moment) mark)
  marked_formed host Plain none = report_formed _ (kept_whole f kept report moment formed none host).rows host report cut.Whole formed.act_formed running
  marked_formed host Memory none = tt
  marked_formed host Store none = tt
  marked_formed host (CutAfter k) none = report_formed _ (kept_cut f kept report moment formed none host k).rows host report cut.Memory formed.act_formed running
  marked_formed host (StoreAfter k) none = report_formed _ (kept_cut f kept report moment formed none host k).rows host report cut.Store formed.act_formed running
  marked_formed host LatePlain none = tt
  marked_formed host (LateCut k) none = tt
  marked_formed host (LateStore k) none = tt

  accepted_formed : (mark : Mark) (o : Option ℕ) → refusal_of f (heard_entry report moment) ≡ None → Replies (accepted_answer f report moment mark o)
  accepted_formed mark None none = tt
  accepted_formed mark (Some host) none = marked_formed host mark none

  report_replies : (mark : Mark) (why : Option Refusal) → refusal_of f (heard_entry report moment) ≡ why → Replies (report_answer f report moment mark why)
  report_replies mark None none = accepted_formed mark (host_named f report.heard.host) none
  report_replies mark (Some why) is = subst (λ (o : Option Refusal). IfSome o IsFormedRefusal) is (refused_formed f (act.Heard report.heard) kept.rows formed.act_formed tt)

-- ---- other acts

module _ (f : Farm) (kept : IsKeptFarm f) (moment : ℕ) (does : Act) (formed : IsFormedAct does) (text : SaysText does) where
  taken_formed : refusal_of f (entry_at moment does) ≡ None → IsFormedReply (ok_reply does (answer_of f (entry_at moment does)))
  taken_formed none = let parts = neither (act_refusal f does) (follow_refusal f does) none in ok_formed f (moment_of f moment) does kept formed parts.0 parts.1

  entry_replies : (mark : Mark) (why : Option Refusal) → refusal_of f (entry_at moment does) ≡ why → Replies (entry_answer f (entry_at moment does) mark why)
  entry_replies mark (Some why) is = subst (λ (o : Option Refusal). IfSome o IsFormedRefusal) is (refused_formed f does kept.rows formed text)
  entry_replies Store None none = tt
  entry_replies Plain None none = taken_formed none
  entry_replies Memory None none = taken_formed none
  entry_replies (CutAfter k) None none = taken_formed none
  entry_replies (StoreAfter k) None none = taken_formed none
  entry_replies LatePlain None none = taken_formed none
  entry_replies (LateCut k) None none = taken_formed none
  entry_replies (LateStore k) None none = taken_formed none

  act_replies : (mark : Mark) → Replies (entry_answer f (entry_at moment does) mark (refusal_of f (entry_at moment does)))
  act_replies mark = entry_replies mark (refusal_of f (entry_at moment does)) refl

-- ---- lines

module _ (f : Farm) (kept : IsKeptFarm f) (moment : ℕ) (low : moment < 2 ^ 64) (mark : Mark) where
  -- what is asked, where it is within its forms and limits
  request_replies : (what : Request) → IsFormedRequest what → Replies (asked_answer f moment mark (asked_of what))
  request_replies (request.Show name) formed = act_replies f kept moment (act.Show name) formed tt mark
  request_replies (request.Alloc facility tag) formed = act_replies f kept moment (act.Alloc facility tag) formed tt mark
  request_replies (request.Sub line) formed = act_replies f kept moment (act.Sub line) formed.0 formed.1 mark
  request_replies (request.Limit name most) formed = act_replies f kept moment (act.Limit name most) formed tt mark
  request_replies (request.Boot line) formed = act_replies f kept moment (act.Boot line) formed.0 formed.1 mark
  request_replies (request.Report report) formed =
      report_replies f kept report moment (record { moment_within = low; act_formed = formed.0 }) formed.1 mark (refusal_of f (heard_entry report moment)) refl
  request_replies (request.Lock host lock) formed = act_replies f kept moment (act.Lock host lock) formed tt mark
  request_replies (request.Submit spec) formed = act_replies f kept moment (act.Submit spec) formed tt mark
  request_replies (request.Depend spec) formed = act_replies f kept moment (act.AddDepend spec) formed tt mark
  request_replies (request.Drop depend) formed = act_replies f kept moment (act.DropDepend depend) formed tt mark
  request_replies (request.Pause job paused) formed = act_replies f kept moment (act.Pause job paused) formed tt mark
  request_replies (request.KillJob job) formed = act_replies f kept moment (act.KillJob job) formed tt mark
  request_replies (request.KillFrame p) formed = act_replies f kept moment (act.KillFrame p) formed.0 tt mark
  request_replies (request.EatFrame p) formed = act_replies f kept moment (act.EatFrame p) formed.0 tt mark
  request_replies (request.RetryFrame p) formed = act_replies f kept moment (act.RetryFrame p) formed.0 tt mark
  request_replies request.Tick formed = act_replies f kept moment act.Tick formed tt mark
  request_replies (request.List query) formed = list_formed f kept query formed

unless_replies : (mark : Mark) (answered : Answered) → Replies answered → Replies (unless_memory mark answered)
unless_replies Memory answered formed = tt
unless_replies Plain answered formed = formed
unless_replies Store answered formed = formed
unless_replies (CutAfter k) answered formed = formed
unless_replies (StoreAfter k) answered formed = formed
unless_replies LatePlain answered formed = formed
unless_replies (LateCut k) answered formed = formed
unless_replies (LateStore k) answered formed = formed

-- what is replied to any line
pub answer_formed : (f : Farm) (line : List ℕ) (moment : ℕ) (mark : Mark) → IsKeptFarm f → moment < 2 ^ 64 → IsFormedReply (answer_to f line moment mark).reply
unfolding answer_to
answer_formed f line moment mark kept low = by (nat_lt LINE_LIMIT (length line))
  where
    read : (r : Result Request RequestError) → request_of line ≡ r → Replies (request_answer f moment mark r)
    read (Ok what) is = request_replies f kept moment low mark what (request_formed line what is)
    read (Err error) is = fault_formed line error is

    by : (b : Bool) → Replies (cond b (only_reply reply.TooLong) (unless_memory mark (request_answer f moment mark (request_of line))))
    by true = tt
    by false = unless_replies mark (request_answer f moment mark (request_of line)) (read (request_of line) refl)
