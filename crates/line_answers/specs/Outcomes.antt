-- What a line comes to where neither memory nor the store fails it.
use Rattle.std.specs.Prelude.{◌≡◌, ◌≤◌, ◌<◌, ◌∷◌, ℕ, List, length, None, Some, Ok}
use Rattle.farm_lines.specs.declared.report.Report.{Report}
use Rattle.farm_lines.specs.declared.request.Request.TheVariants as request
use Rattle.farm_types.specs.Dispatch.{round_for}
use Rattle.farm_types.specs.Farm.{Farm, host_named}
use Rattle.farm_lines.specs.declared.reply.Reply.TheVariants as reply
use Rattle.farm_lines.specs.Request.{request_of}
use Rattle.farm_types.specs.Step.{refusal_of, after}
use Rattle.farm_lines.specs.Asked.{heard_entry}
use Rattle.farm_lines.specs.Transcript.{Mark, Plain, LatePlain, answer_to, only_reply, request_answer}
use Rattle.farm_lines.specs.declared.limits.TheConstants.{LINE_LIMIT}

-- the round that follows a report was walked to its end, whatever came of the reply
abbrev pub WalksWhole : Mark → Type 0
WalksWhole Plain = Unit {0}
WalksWhole LatePlain = Unit {0}
WalksWhole mark = ⊥

-- the line asks that this report be taken, and the farm takes it
pub record IsAccepted (f : Farm) (line : List ℕ) (moment : ℕ) (report : Report) : Type 0 where
  pub fits : length line ≤ LINE_LIMIT
  pub asks : request_of line ≡ Ok (request.Report report)
  pub accepted : refusal_of f (heard_entry report moment) ≡ None

-- the report's host is there, and what is recorded of the line is that it was heard, and then exactly its round
pub record HasWholeRound (f : Farm) (line : List ℕ) (moment : ℕ) (mark : Mark) (report : Report) : Type 0 where
  pub host : ℕ
  pub named : host_named f report.heard.host ≡ Some host
  pub recorded : (answer_to f line moment mark).entries ≡ heard_entry report moment ∷ round_for (after f (heard_entry report moment)) host moment

-- A line past the limit is told so, wherever memory runs out or the store fails. Each other, where neither does, is answered by what it asks. Where
-- memory runs out for nothing but the reply to a report, the same is recorded.
pub record IsAnsweredFully (f : Farm) (line : List ℕ) (moment : ℕ) : Type 0 where
  pub long : LINE_LIMIT < length line → (mark : Mark) → answer_to f line moment mark ≡ only_reply reply.TooLong
  pub plain : length line ≤ LINE_LIMIT → answer_to f line moment Plain ≡ request_answer f moment Plain (request_of line)
  pub late : (answer_to f line moment LatePlain).entries ≡ (answer_to f line moment Plain).entries
