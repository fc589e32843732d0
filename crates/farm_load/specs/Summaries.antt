-- What a load tells at its end, and how a call of it ends.
use Rattle.std.specs.Prelude.{ℕ, ◌≡◌, ◌+◌, ◌*◌, ◌/◌, ◌-◌, true, false, List, ◌++◌, codes, decimal, length}
use Rattle.farm_types.specs.declared.entry.Entry.{Entry}
use Rattle.farm_types.specs.Farm.{Farm}
use Rattle.farm_lines.specs.Transcript.{Mark}
use Rattle.line_answers.specs.LineAnswers.{bookings_in}
use Rattle.farm_load.specs.declared.limits.TheConstants.{HOSTS}
use Rattle.farm_load.specs.declared.load_end.LoadEnd.{LoadEnd}
use Rattle.farm_load.specs.declared.load_end.LoadEnd.TheVariants as load_end
use Rattle.farm_load.specs.declared.summary.Summary.{Summary}
use Rattle.farm_load.specs.Loads.{AreCalm, AreMarks, HaveCause, Load, failed_in, has_finished, load_run, load_start, most_reports}

-- ---- the summary

-- the round of the last of so many reports
abbrev pub rounds_of : ℕ → ℕ
rounds_of reports = (reports + (HOSTS - 1)) / HOSTS

-- the frames of both layers, the bookings and the failures that were recorded over a farm, and the round in which the job finished
abbrev pub summary_of : ℕ → Farm → Load → Summary
summary_of n first l = record { frames = 2 * n; attempts = bookings_in l.recorded; failed = failed_in n first l.recorded; rounds = rounds_of l.reports }

-- its four lines
unfoldable pub summary_text : Summary → List ℕ
summary_text s =
    codes "frames " ++ decimal s.frames ++ codes "\nattempts " ++ decimal s.attempts ++ codes "\nfailed " ++ decimal s.failed ++ codes "\nrounds "
    ++ decimal s.rounds ++ codes "\n"

-- ---- how a run ends

-- The job is finished; or it isn't, after the most rounds; or memory ran out. In the first two cases it never did.
abbrev pub EndsBy : ℕ → Farm → List Mark → LoadEnd → Type 0
EndsBy n f marks (load_end.Finished summary) = AreCalm marks × (has_finished (load_run n f marks).farm ≡ true) × (summary ≡ summary_of n f (load_run n f marks))
EndsBy n f marks load_end.Spent = AreCalm marks × (has_finished (load_run n f marks).farm ≡ false) × (length marks ≡ most_reports)
EndsBy n f marks load_end.NoMemory = Unit {0}

-- a load was run over a farm, with these marks, and ended so; the journal has exactly its entries more
pub record RunsLoad (n : ℕ) (old : Farm) (ended : LoadEnd) (new : Farm) (faults faults_now : ℕ) (journals : List Entry → Type 0) : Type 0 where
  pub marks : List Mark
  pub are_marks : AreMarks n (load_start old) marks
  pub farm_is : new ≡ (load_run n old marks).farm
  pub cause : HaveCause marks faults faults_now
  pub words : journals (load_run n old marks).recorded
  pub ends : EndsBy n old marks ended
