use Rattle.recording_table.specs.Steps.{kind_of}
use Rattle.recording_table.proofs.steps.exchange.Given as goal

-- the step at hand
abbrev pub ghosts-exchange_by : goal.ghosts-exchange_by
ghosts-exchange_by a = record { kind = kind_of a.doing }
