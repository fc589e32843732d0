-- What comes of a report's entry beside others, before its round.
use Rattle.std.specs.Prelude.{◌≡◌, ℕ, false, [], ◌∷◌, ◌++◌, length, Option, None, Some, Result, Ok, Err}
use Rattle.farm_types.specs.declared.entry.Entry.{Entry}
use Rattle.farm_types.specs.declared.refusal.Refusal.{Refusal}
use Rattle.farm_types.specs.Step.{refusal_of}
use Rattle.farm_changes.specs.Change.{HasHeard}
use Rattle.line_answers.specs.booking_recorder.specs.declared.refusal.CommitRefusal.{CommitRefusal}
use Rattle.line_answers.specs.booking_recorder.specs.declared.refusal.CommitRefusal.TheVariants as commit
use Rattle.line_answers.specs.booking_recorder.specs.Passing.{Passing}
use Rattle.line_answers.specs.declared.hindered.Hindered.TheVariants as hindered
use Rattle.line_answers.specs.LineAnswers.{MayFail}
use Rattle.shared_rounds.specs.shared_bot.specs.Passes.{CaughtUp, farm_before}
use Rattle.shared_lines.specs.Answered.{is_full}
use Rattle.shared_lines.specs.Hindered.{IsHinderedBy}

-- it was recorded: the farm that others had left takes it, and so its host is told
pub record IsHeardAt (v : Passing) (e : Entry) (host : Option ℕ) (w : Passing) : Type 0 where
  pub caught : CaughtUp v w (e ∷ []) 0
  pub accepted : refusal_of (farm_before v caught.others) e ≡ None
  pub heard : HasHeard (farm_before v caught.others) e.act host

-- that farm refuses it so
pub record IsRefusedAt (v : Passing) (e : Entry) (why : Refusal) (w : Passing) : Type 0 where
  pub caught : CaughtUp v w [] 0
  pub refused : refusal_of (farm_before v caught.others) e ≡ Some why

-- that farm takes it, and the store failed at a row that changes; the journal had room
pub record IsUnstoredAt (v : Passing) (e : Entry) (w : Passing) : Type 0 where
  pub caught : CaughtUp v w [] 1
  pub fails : MayFail (farm_before v caught.others) e
  pub room : is_full (length (v.view.journal ++ caught.others)) ≡ false

abbrev pub HearsBeside : Passing → Entry → Result (Option ℕ) CommitRefusal → Passing → Type 0
HearsBeside v e (Ok host) w = IsHeardAt v e host w
HearsBeside v e (Err (commit.Refused why)) w = IsRefusedAt v e why w
HearsBeside v e (Err commit.Spent) w = IsHinderedBy v e hindered.Spent w
HearsBeside v e (Err (commit.Held cores memory)) w = IsHinderedBy v e (hindered.Held cores memory) w
HearsBeside v e (Err commit.Store) w = IsUnstoredAt v e w
HearsBeside v e (Err commit.NoMemory) w = CaughtUp v w [] 0
