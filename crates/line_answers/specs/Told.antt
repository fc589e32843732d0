-- What is told of a report.
use Rattle.std.specs.Prelude.{◌≡◌, ℕ, Bool, true, false, List, [], ◌∷◌, ◌++◌, map}
use Rattle.farm_lines.specs.declared.launch.Launch.{Launch}
use Rattle.farm_lines.specs.declared.reply.Reply.{Reply}
use Rattle.farm_lines.specs.declared.reply.Reply.TheVariants as reply
use Rattle.farm_lines.specs.declared.reply.ReportReply.{ReportReply}
use Rattle.farm_lines.specs.Reply.{reply_text}
use Rattle.line_answers.specs.declared.told.ReportLine.{ReportLine}
use Rattle.line_answers.specs.declared.told.Told.{Told}
use Rattle.line_answers.specs.declared.told.Told.TheVariants as told
use Rattle.line_answers.specs.Lines.{IsLineOfOther}

-- the line is that of the reply to a report that was recorded, with the attempts that it launches and what cut the round short
pub record IsReportLine (line : ReportLine) (made : ReportReply) : Type 0 where
  pub text : line.text ≡ reply_text (reply.Report made) ++ 10 ∷ []
  pub launched : line.launched ≡ map (λ (l : Launch). l.attempt) made.launches
  pub cut : line.cut ≡ made.cut

abbrev pub is_report : Reply → Bool
is_report (reply.Report made) = true
is_report other = false

-- the line is that of such a reply
abbrev pub Reports : ReportLine → Reply → Type 0
Reports line (reply.Report made) = IsReportLine line made
Reports line other = ⊥

-- the line of the reply was written, or this is the reply, which is to no report that was recorded
abbrev pub Tells : Told → Reply → Type 0
Tells (told.Reported line) what = Reports line what
Tells (told.Other other) what = (other ≡ what) × (is_report what ≡ false)

-- the line is the one that was written, or that of the other reply, unless memory ran out for it
abbrev pub IsLineOfTold : Told → List ℕ → Type 0
IsLineOfTold (told.Reported line) text = text ≡ line.text
IsLineOfTold (told.Other other) text = IsLineOfOther other text
