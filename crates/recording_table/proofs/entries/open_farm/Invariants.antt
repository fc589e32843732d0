use Rattle.recording_core.specs.Records.RecorderKind.{opens}
use Rattle.recording_table.proofs.entries.open_farm.Given as goal

-- the farm at hand
abbrev pub ghosts-load_as : goal.ghosts-load_as
ghosts-load_as g a = record { kind = opens g.E.Opens.farm }
