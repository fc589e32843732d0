-- What an answer over a store that refuses one commit says of its mark.
use Rattle.std.specs.Prelude.{ℕ, ◌≡◌, Option, List, Bool, true, false}
use Rattle.farm_types.specs.Farm.{Farm}
use Rattle.farm_types.specs.Run.{run_of}
use Rattle.farm_keeper.specs.Keeping.{Committing}
use Rattle.farm_lines.specs.declared.asked.Asked.TheVariants as asked
use Rattle.farm_lines.specs.declared.report.Report.{Report}
use Rattle.farm_lines.specs.Transcript.{Answered, Mark, Plain, is_store_mark}
use Rattle.line_answers.specs.LineAnswers.{IsAnswer, MayStore, bookings_in, is_calm, reported, tells_memory}
use Rattle.line_answers.specs.Told.{Tells}
use Rattle.line_answers.specs.declared.told.Taken.{Taken}
use Rattle.line_answers.specs.recorder.specs.Telling as telling
use Rattle.world_answers.specs.declared.refusing.Refusing.{Refusing}
use Rattle.world_answers.specs.Refusing.{Commits, new_refusing}

-- what the store tells of a commit
abbrev pub refusals : Committing Refusing
refusals batch answer before now = Commits answer before now

-- the store was told these of all entries, and failed, or didn't
abbrev pub WasTold : Farm → Answered → Answered → Bool → Option ℕ → Type 0
WasTold f plain made failed due = (now : Refusing) × telling.Tells refusals f plain.entries made.entries failed (new_refusing due) now

-- the answer by a mark that may stand there, of which the store was told
pub record IsMarked (f : Farm) (answers : Mark → Answered) (may : Mark → Type 0) (due : Option ℕ) (new : Farm) (line : List ℕ) : Type 0 where
  pub mark : Mark
  pub answer : IsAnswer f (answers mark) new line
  pub may_stand : may mark
  pub told : WasTold f (answers Plain) (answers mark) (is_store_mark mark) due

-- so of a report with its round
pub record IsTaken (f : Farm) (report : Report) (moment : ℕ) (due : Option ℕ) (new : Farm) (taken : Taken) : Type 0 where
  pub mark : Mark
  pub farm : new ≡ run_of f (reported f report moment mark).entries
  pub reply : Tells taken.told (reported f report moment mark).reply
  pub booked : taken.booked ≡ bookings_in (reported f report moment mark).entries
  pub calm : tells_memory (reported f report moment mark).reply ≡ false → is_calm mark ≡ true
  pub may_stand : MayStore f moment (asked.Report report) mark
  pub told : WasTold f (reported f report moment Plain) (reported f report moment mark) (is_store_mark mark) due
