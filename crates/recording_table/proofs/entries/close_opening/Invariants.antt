use Rattle.recording_core.specs.Records.RecorderKind.{closes}
use Rattle.recording_table.proofs.entries.close_opening.Given as goal

-- the end of the placing
abbrev pub ghosts-load_as : goal.ghosts-load_as
ghosts-load_as a = record { kind = closes }
