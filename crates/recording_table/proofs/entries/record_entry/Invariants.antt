use Rattle.recording_core.specs.Records.RecorderKind.{records}
use Rattle.recording_table.proofs.entries.record_entry.Given as goal

-- the entry at hand
abbrev pub ghosts-record_as : goal.ghosts-record_as
ghosts-record_as a = record { kind = records a.entry.now }
