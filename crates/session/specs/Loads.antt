-- What a call of a load does.
use Rattle.std.specs.Prelude.{◌≡◌, ◌<◌, ◌++◌, [], ◌⊎◌, ℕ, List, length}
use Rattle.command_line.specs.declared.status.Status.{Status}
use Rattle.command_line.specs.declared.status.Status.TheVariants as exit
use Rattle.farm_types.specs.declared.entry.Entry.{Entry}
use Rattle.farm_types.specs.Farm.{Farm}
use Rattle.farm_types.specs.Run.{IsLegal, IsSafe}
use Rattle.farm_lines.specs.Transcript.{Mark}
use Rattle.farm_load.specs.declared.load_end.LoadEnd.{LoadEnd}
use Rattle.farm_load.specs.declared.load_end.LoadEnd.TheVariants as load_end
use Rattle.farm_load.specs.Loads.{AreMarks, HaveCause, load_run, load_start}
use Rattle.farm_load.specs.Summaries.{EndsBy, summary_text}

-- all of the summary was written; or a write failed, and less than all of it was; or memory ran out for its text
abbrev pub TellsSummary : List ℕ → Status → List ℕ → Type 0
TellsSummary text status wrote =
    ((status ≡ exit.Done) × (wrote ≡ text))
    ⊎ (((status ≡ exit.WriteFailed) × (unwritten : List ℕ) × (0 < length unwritten) × (wrote ++ unwritten ≡ text))
    ⊎ ((status ≡ exit.NoMemory) × (wrote ≡ [])))

-- the status, and what was written, by how the run ended
abbrev pub TellsEnd : LoadEnd → Status → List ℕ → Type 0
TellsEnd (load_end.Finished summary) status wrote = TellsSummary (summary_text summary) status wrote
TellsEnd load_end.Spent status wrote = (status ≡ exit.Spent) × (wrote ≡ [])
TellsEnd load_end.NoMemory status wrote = (status ≡ exit.NoMemory) × (wrote ≡ [])

-- A load was run over a farm that was opened. The entries that it recorded are a legal run from that farm, and a safe one, the store holds the farm that
-- they make, and the journal has exactly these entries more.
pub record AnswersLoad (n : ℕ) (first : Farm) (status : Status) (wrote : List ℕ) (faults faults_now : ℕ) (holds : Farm → Type 0)
    (journals : List Entry → Type 0) : Type 0 where
  pub marks : List Mark
  pub ended : LoadEnd
  pub are_marks : AreMarks n (load_start first) marks
  pub ends : EndsBy n first marks ended
  pub told : TellsEnd ended status wrote
  pub causes : HaveCause marks faults faults_now
  pub legal : IsLegal first (load_run n first marks).recorded
  pub safe : IsSafe first (load_run n first marks).recorded
  pub held : holds (load_run n first marks).farm
  pub on_words : journals (load_run n first marks).recorded
