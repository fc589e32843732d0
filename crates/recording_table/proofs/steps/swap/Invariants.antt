use Rattle.recording_table.specs.Steps.{kind_of}
use Rattle.recording_table.proofs.steps.swap.Given as goal

-- the step at hand
abbrev pub ghosts-swap_by : goal.ghosts-swap_by
ghosts-swap_by a = record { kind = kind_of a.doing }
