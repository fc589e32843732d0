-- Entries that a line asks, on a recorder that may stand beside others: recorded, or hindered.
use Rattle.std.specs.Prelude.{◌≡◌, ◌≢◌, ◌⊎◌, ◌==◌, ℕ, Bool, true, false, List, [], Option, None, Result, Ok, Err, length}
use Rattle.farm_types.specs.declared.entry.Entry.{Entry}
use Rattle.farm_types.specs.Farm.{Farm}
use Rattle.farm_types.specs.Step.{refusal_of}
use Rattle.farm_keeper.specs.Keeping.{Committing, Continues}
use Rattle.booking_rule.specs.declared.view.View.{View}
use Rattle.dispatcher.specs.recording_turns.specs.Resting.{split_in}
use Rattle.dispatcher.specs.booking_recorder.specs.declared.refusal.CommitRefusal.{CommitRefusal}
use Rattle.dispatcher.specs.booking_recorder.specs.declared.refusal.CommitRefusal.TheVariants as commit
use Rattle.dispatcher.specs.booking_recorder.specs.declared.refusal.RecordFault.{RecordFault}
use Rattle.dispatcher.specs.booking_recorder.specs.declared.refusal.RecordFault.TheVariants as fault
use Rattle.dispatcher.specs.booking_recorder.specs.Entries.{IsHeld, TellsCommit}
use Rattle.dispatcher.specs.booking_recorder.specs.Faults.{is_store_refusal}
use Rattle.dispatcher.specs.booking_recorder.specs.Going.{GoesOn}
use Rattle.dispatcher.specs.booking_recorder.specs.Recording.{Recording, most_entries}
use Rattle.dispatcher.specs.booking_recorder.specs.Views.{Entered, Enters, Stays}
use Rattle.line_answers.specs.declared.hindered.Hindered.{Hindered}
use Rattle.line_answers.specs.declared.hindered.Hindered.TheVariants as hindered
use Rattle.line_answers.specs.declared.reply_line.ReplyLine.{ReplyLine}
use Rattle.line_answers.specs.declared.reply_line.ReplyLine.TheVariants as reply_line
use Rattle.line_answers.specs.LineAnswers.{Hears}
use Rattle.line_answers.specs.Lines.{is_store_line}

-- ---- a request of one entry

-- room on the host that it resizes isn't free, and some seat was split off that may have it; or the journal has all the entries that it can count, which is
-- looked for first
abbrev pub Hinders : Farm → Entry → View → Hindered → View → Type 0
Hinders f e v (hindered.Held cores memory) w =
    (split_in v.desk ≢ 0) × ((length v.journal == most_entries) ≡ false) × IsHeld f e v cores memory w
Hinders f e v hindered.Spent w = (length v.journal == most_entries) ≡ true

-- an entry that the farm takes was hindered so, and the farm and the keeper are as before
pub record IsHindered {K : Type 0} (old : Recording K) (e : Entry) (why : Hindered) (new : Recording K) : Type 0 where
  pub accepted : refusal_of old.farm e ≡ None
  pub farm : new.farm ≡ old.farm
  pub keeper : new.keeper ≡ old.keeper
  pub hinders : Hinders old.farm e old.view why new.view

-- the journal has the entry that was answered, or nothing more; where it was hindered, nothing more
abbrev pub EntersAnswer : View → Entry → Result ReplyLine Hindered → View → Type 0
EntersAnswer v e (Ok line) w = Entered v e w ⊎ Stays v w
EntersAnswer v e (Err why) w = Stays v w

-- The recorder went on so over what was asked. The line tells of the store exactly where it failed. A full journal took nothing, and then the store
-- wasn't asked.
pub record AnswersOn {K : Type 0} (commits : Committing K) (tells : K → Type 0) (faults : K → ℕ) (before now : Recording K) (line : ReplyLine)
    (all done : List Entry) (failed : Bool) : Type 0 where
  pub goes : GoesOn commits tells faults before now all done failed
  pub told : failed ≡ is_store_line line
  pub room : (length before.view.journal == most_entries) ≡ true → (done ≡ []) × (failed ≡ false)

-- what comes of an entry that wasn't recorded
abbrev pub unrecorded : RecordFault → Result ReplyLine Hindered
unrecorded fault.Store = Ok reply_line.Store
unrecorded fault.NoMemory = Ok reply_line.NoMemory
unrecorded (fault.Held cores memory) = Err (hindered.Held cores memory)
unrecorded fault.Spent = Err hindered.Spent

-- the answer tells that the store failed
abbrev pub is_store_answer : Result ReplyLine Hindered → Bool
is_store_answer (Ok line) = is_store_line line
is_store_answer (Err why) = false

-- ---- a report's entry

-- what else shares the words, or the journal's end, hindered it
abbrev pub is_hindrance : CommitRefusal → Bool
is_hindrance (commit.Refused why) = false
is_hindrance commit.Spent = true
is_hindrance (commit.Held cores memory) = true
is_hindrance commit.Store = false
is_hindrance commit.NoMemory = false

abbrev pub is_hindered : {T : Type 0} → Result T CommitRefusal → Bool
is_hindered (Ok done) = false
is_hindered (Err why) = is_hindrance why

-- the farm, the journal and the keeper went on as this came of the entry
pub record WasHeard {K : Type 0} (commits : Committing K) (tells : K → Type 0) (faults : K → ℕ) (before : Recording K) (e : Entry)
    (came : Result (Option ℕ) CommitRefusal) (now : Recording K) : Type 0 where
  pub farm : Hears before.farm e came now.farm
  pub journal : Enters before.view e came now.view
  pub keeper : Continues tells faults before.keeper now.keeper (is_store_refusal came)
  pub told : TellsCommit commits before.farm e came before.keeper now.keeper
