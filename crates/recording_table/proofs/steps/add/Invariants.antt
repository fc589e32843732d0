use Rattle.recording_table.specs.Steps.{kind_of}
use Rattle.recording_table.proofs.steps.add.Given as goal

-- the step at hand
abbrev pub ghosts-add_by : goal.ghosts-add_by
ghosts-add_by a = record { kind = kind_of a.doing }
