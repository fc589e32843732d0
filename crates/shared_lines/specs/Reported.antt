-- A report that was recorded, with its round beside others.
use Rattle.std.specs.Prelude.{◌≡◌, ℕ, List, [], Some}
use Rattle.fault_counts.specs.Counts.{HasRisen}
use Rattle.farm_types.specs.declared.dispatch.Cut.TheVariants as cut
use Rattle.farm_lines.specs.Asked.{heard_entry}
use Rattle.farm_lines.specs.declared.report.Report.{Report}
use Rattle.farm_lines.specs.Reply.{report_reply}
use Rattle.booking_rule.specs.Kept.{farm_in}
use Rattle.line_answers.specs.booking_recorder.specs.Passing.{Passing}
use Rattle.line_answers.specs.Lines.{IsLineOf}
use Rattle.shared_rounds.specs.declared.round.Round.{Round}
use Rattle.shared_rounds.specs.Rounds.{HasBooked, IsRoundBeside}
use Rattle.shared_rounds.specs.shared_bot.specs.Passes.{CaughtUp}
use Rattle.shared_lines.specs.Hearing.{IsHeardAt}

-- The round went for the host, and the report's reply is that of the farm which the pass has seen behind it, or memory ran out for it. What was recorded
-- for the round are its bookings. The store cut it only where it failed.
pub record IsRepliedBehind (v : Passing) (host : ℕ) (report : Report) (moment : ℕ) (text : List ℕ) (w : Passing) : Type 0 where
  pub round : Round
  pub walked : Passing
  pub walks : IsRoundBeside v host moment round walked
  pub booked : HasBooked v moment round.outcomes walked
  pub caught : CaughtUp walked w [] 0
  pub replies : IsLineOf (report_reply (farm_in w.view) host report round.cut) text
  pub store : round.cut ≡ cut.Store → HasRisen v.faults w.faults

-- so a report was recorded, with its round behind it, and replied to
pub record IsReportedAt (v : Passing) (report : Report) (moment : ℕ) (text : List ℕ) (w : Passing) : Type 0 where
  pub host : ℕ
  pub heard : Passing
  pub recorded : IsHeardAt v (heard_entry report moment) (Some host) heard
  pub replied : IsRepliedBehind heard host report moment text w
