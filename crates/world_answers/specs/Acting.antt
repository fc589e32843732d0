-- What a request of one entry comes to.
use Rattle.std.specs.Prelude.{ℕ, Bool, true, false, List, [], ◌∷◌, Option, Result, Ok, Err}
use Rattle.farm_types.specs.declared.entry.Act.{Act}
use Rattle.farm_types.specs.declared.entry.Act.TheVariants as act
use Rattle.farm_types.specs.declared.entry.Entry.{Entry}
use Rattle.farm_types.specs.Farm.{Farm}
use Rattle.farm_types.specs.Step.{refusal_of}
use Rattle.farm_lines.specs.Transcript.{Mark, entry_answer, unless_memory}
use Rattle.world_answers.specs.declared.acting.Acted.{Acted}
use Rattle.world_answers.specs.declared.trial.Trial.{Trial}
use Rattle.world_answers.specs.declared.trial.TrialFault.{TrialFault}
use Rattle.world_answers.specs.Trials.{Tries}

-- no report is heard
abbrev pub IsNoReport : Act → Type 0
IsNoReport (act.Heard heard) = ⊥
IsNoReport other = Unit {0}

abbrev pub recorded_if : Bool → Entry → List Entry
recorded_if true e = e ∷ []
recorded_if false e = []

-- the trial of an entry, by what it came to
abbrev pub trial_by : Acted → Entry → Trial
trial_by a e =
    record { farm = a.farm; entries = recorded_if a.recorded e; ends = []; stored = a.stored; reply = a.reply; further = a.further }

abbrev pub trial_if : Result Acted TrialFault → Entry → Result Trial TrialFault
trial_if (Ok a) e = Ok (trial_by a e)
trial_if (Err why) e = Err why

-- by the marks of an entry the trial is one, if the entry is no report
abbrev pub Acts : Farm → Entry → Option ℕ → Result Acted TrialFault → Type 0
Acts f e refused result =
    IsNoReport e.act → Tries f (λ (mark : Mark). unless_memory mark (entry_answer f e mark (refusal_of f e))) refused (trial_if result e)
