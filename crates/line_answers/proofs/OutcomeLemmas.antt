-- What a line comes to where neither memory nor the store fails it.
use Rattle.std.proofs.Common.{◌≡◌, ℕ, List, ◌∷◌, length, cond, Bool, true, false, refl, ap, ◌∙◌, Option, None, Some, Result, Ok, Err}
use Rattle.std.specs.Prelude.{nat_lt}
use Rattle.farm_types.specs.declared.entry.Entry.{Entry}
use Rattle.farm_types.specs.declared.refusal.Refusal.{Refusal}
use Rattle.farm_lines.specs.declared.report.Report.{Report}
use Rattle.farm_lines.specs.declared.request.Request.{Request}
use Rattle.farm_lines.specs.declared.asked.Asked.{Asked}
use Rattle.farm_lines.specs.declared.asked.Asked.TheVariants as asked
use Rattle.farm_types.specs.Dispatch.{round_for}
use Rattle.farm_types.specs.Farm.{Farm, host_named}
use Rattle.farm_lines.specs.declared.reply.Reply.TheVariants as reply
use Rattle.farm_lines.specs.Request.{RequestError, request_of}
use Rattle.farm_types.specs.Step.{refusal_of, after}
use Rattle.farm_lines.specs.Asked.{asked_of, entry_at, heard_entry}
use Rattle.farm_lines.specs.Transcript.{Mark, Plain, LatePlain, answer_to, marked_answer, accepted_answer, asked_answer, entry_answer, report_answer, request_answer, unless_memory, only_reply}
use Rattle.line_answers.specs.Outcomes.{WalksWhole, IsAccepted, HasWholeRound, IsAnsweredFully}
use Rattle.line_answers.proofs.AnswerLemmas.{line_within, long_answer}
use Rattle.line_answers.proofs.ReportLemmas.{accepted_is, host_of}
use Rattle.farm_lines.specs.declared.limits.TheConstants.{LINE_LIMIT}

-- ---- the round of a report

whole_entries : (f : Farm) (host : ℕ) (report : Report) (heard : Entry) (round : List Entry) (mark : Mark) → WalksWhole mark
    → (marked_answer f host report heard round mark).entries ≡ heard ∷ round
whole_entries f host report heard round Plain whole = refl
whole_entries f host report heard round LatePlain whole = refl
whole_entries f host report heard round mark whole = absurd whole

pub whole_round : (f : Farm) (line : List ℕ) (moment : ℕ) (mark : Mark) (report : Report) → WalksWhole mark → IsAccepted f line moment report
    → HasWholeRound f line moment mark report
whole_round f line moment mark report whole taken =
    let found = host_of f report moment (host_named f report.heard.host) refl taken.accepted in
    record {
      host = found.0;
      named = found.1;
      recorded = ap (λ a. a.entries) (
          line_within f line moment mark taken.fits
          ∙ ap (λ read. unless_memory mark (request_answer f moment mark read)) taken.asks
          ∙ accepted_is f report moment found.0 mark taken.accepted found.1
          ) ∙ whole_entries f found.0 report (heard_entry report moment) (round_for (after f (heard_entry report moment)) found.0 moment) mark whole;
    }

-- ---- every line

late_accepted : (f : Farm) (report : Report) (moment : ℕ) (host : Option ℕ) → (accepted_answer f report moment LatePlain host).entries ≡ (accepted_answer f report moment Plain host).entries
late_accepted f report moment None = refl
late_accepted f report moment (Some host) = refl

late_report : (f : Farm) (report : Report) (moment : ℕ) (why : Option Refusal) → (report_answer f report moment LatePlain why).entries ≡ (report_answer f report moment Plain why).entries
late_report f report moment None = late_accepted f report moment (host_named f report.heard.host)
late_report f report moment (Some why) = refl

late_entry : (f : Farm) (e : Entry) (why : Option Refusal) → (entry_answer f e LatePlain why).entries ≡ (entry_answer f e Plain why).entries
late_entry f e None = refl
late_entry f e (Some why) = refl

late_asked : (f : Farm) (moment : ℕ) (what : Asked) → (asked_answer f moment LatePlain what).entries ≡ (asked_answer f moment Plain what).entries
late_asked f moment (asked.Report report) = late_report f report moment (refusal_of f (heard_entry report moment))
late_asked f moment (asked.Act does) = late_entry f (entry_at moment does) (refusal_of f (entry_at moment does))
late_asked f moment (asked.List query) = refl

late_request : (f : Farm) (moment : ℕ) (read : Result Request RequestError) → (request_answer f moment LatePlain read).entries ≡ (request_answer f moment Plain read).entries
late_request f moment (Err error) = refl
late_request f moment (Ok what) = late_asked f moment (asked_of what)

late_line : (f : Farm) (line : List ℕ) (moment : ℕ) → (answer_to f line moment LatePlain).entries ≡ (answer_to f line moment Plain).entries
unfolding answer_to
late_line f line moment = by (nat_lt LINE_LIMIT (length line))
  where
    by : (b : Bool) → (cond b (only_reply reply.TooLong) (request_answer f moment LatePlain (request_of line))).entries
        ≡ (cond b (only_reply reply.TooLong) (request_answer f moment Plain (request_of line))).entries
    by true = refl
    by false = late_request f moment (request_of line)

pub answered_fully : (f : Farm) (line : List ℕ) (moment : ℕ) → IsAnsweredFully f line moment
answered_fully f line moment = record {
  long = λ past mark. long_answer f line moment mark past;
  plain = λ fits. line_within f line moment Plain fits;
  late = late_line f line moment;
}
