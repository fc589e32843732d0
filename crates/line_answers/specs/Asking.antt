-- What lines ask. Requests ask for no booking: the scheduler alone books.
use Rattle.std.specs.Prelude.{◌≡◌, ℕ, List, Result, Ok, Err}
use Rattle.farm_types.specs.declared.entry.Act.{Act}
use Rattle.farm_types.specs.declared.entry.Act.TheVariants as act
use Rattle.farm_lines.specs.declared.asked.Asked.{Asked}
use Rattle.farm_lines.specs.declared.asked.Asked.TheVariants as asked
use Rattle.farm_lines.specs.declared.request.Request.{Request}
use Rattle.farm_lines.specs.declared.request.RequestFault.{RequestFault}
use Rattle.farm_lines.specs.Asked.{asked_of}
use Rattle.farm_lines.specs.Request.{request_of}
use Rattle.report_codec.specs.Reads.{Fails}
use Rattle.line_answers.specs.declared.reply_line.ReplyLine.{ReplyLine}
use Rattle.line_answers.specs.LineAnswers.{fault_reply}
use Rattle.line_answers.specs.Lines.{IsLineOf, shown}

abbrev pub IsNoBooking : Act → Type 0
IsNoBooking (act.Book slot host) = ⊥
IsNoBooking other = Unit {0}

abbrev pub IsUnbooked : Asked → Type 0
IsUnbooked (asked.Report report) = Unit {0}
IsUnbooked (asked.Act does) = IsNoBooking does
IsUnbooked (asked.List query) = Unit {0}

-- what the line asks, or the line of the reply to its first fault; or memory ran out
abbrev pub Asks : List ℕ → Result Asked ReplyLine → Type 0
Asks line (Ok what) = (asks : Request) × (request_of line ≡ Ok asks) × (what ≡ asked_of asks)
Asks line (Err told) = (found : RequestFault) × Fails found (request_of line) × IsLineOf (fault_reply found) (shown told)
