use Rattle.booking_table.specs.Holds.{claim_of}
use Rattle.recording_core.specs.Records.RecorderKind.{books}
use Rattle.recording_table.proofs.entries.record_booking.Given as goal

-- the claim and the entry at hand
abbrev pub ghosts-book_as : goal.ghosts-book_as
ghosts-book_as a = record { kind = books (claim_of a.claim.now) a.entry.now }
