-- What is asked, answered as alone at a place of the one history.
use Rattle.std.specs.Prelude.{◌≡◌, ◌==◌, ℕ, Bool, true, false, List, [], ◌++◌, length}
use Rattle.farm_types.specs.declared.entry.Entry.{Entry}
use Rattle.farm_lines.specs.declared.asked.Asked.TheVariants as asked
use Rattle.farm_lines.specs.declared.query.Query.{Query}
use Rattle.farm_lines.specs.declared.report.Report.{Report}
use Rattle.booking_rule.specs.Kept.{farm_in}
use Rattle.line_answers.specs.booking_recorder.specs.Passing.{Passing}
use Rattle.line_answers.specs.booking_recorder.specs.Recording.{most_entries}
use Rattle.line_answers.specs.LineAnswers.{AnswersAsked, AnswersEntry, AnswersReport, Going}
use Rattle.shared_rounds.specs.shared_bot.specs.Passes.{CaughtUp, farm_before}

-- how many failures of the store that is
abbrev pub failures : Bool → ℕ
failures true = 1
failures false = 0

-- a journal of so many entries is full
abbrev pub is_full : ℕ → Bool
is_full n = n == most_entries

-- Behind what the pass had seen, and what others recorded since, exactly what was recorded for the line came, and at most one failure of the store: the
-- pass took these in, and nothing else. In a full journal nothing was recorded, and no store was asked.
pub record TakesIn (v : Passing) (others : List Entry) (w : Passing) (mine : List Entry) (failed : Bool) : Type 0 where
  pub caught : CaughtUp v w mine (failures failed)
  pub behind : caught.others ≡ others
  pub room : is_full (length (v.view.journal ++ others)) ≡ true → (mine ≡ []) × (failed ≡ false)

abbrev pub takes_in : Passing → List Entry → Passing → Going
takes_in v others w due mine failed = TakesIn v others w mine failed

-- .. and nothing was recorded
abbrev pub takes_none : Passing → List Entry → Passing → Going
takes_none v others w due mine failed = TakesIn v others w mine failed × (mine ≡ [])

-- A list was answered as in a session that is alone on the farm which others had left.
abbrev pub IsListedAt : Passing → Query → ℕ → List ℕ → Passing → Type 0
IsListedAt v query moment text w =
    (others : List Entry) × AnswersAsked (farm_before v others) (asked.List query) moment (farm_in w.view) text (takes_in v others w)

-- So was a request of one entry.
abbrev pub IsEnteredAt : Passing → Entry → List ℕ → Passing → Type 0
IsEnteredAt v e text w = (others : List Entry) × AnswersEntry (farm_before v others) e (farm_in w.view) text (takes_in v others w)

-- So was a report that wasn't recorded: it was refused, or memory ran out, or the store failed.
abbrev pub IsUnheardAt : Passing → Report → ℕ → List ℕ → Passing → Type 0
IsUnheardAt v report moment text w =
    (others : List Entry) × AnswersReport (farm_before v others) report moment (farm_in w.view) text (takes_none v others w)
