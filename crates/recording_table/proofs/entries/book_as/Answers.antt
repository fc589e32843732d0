use Rattle.std.proofs.Common.{ℕ, ◌+◌, ◌%◌, ◌^◌, sym, subst}
use Rattle.booking_table.specs.Holds.{claim_of}
use Rattle.booking_table.specs.Seats.{view}
use Rattle.recording_core.specs.Records.{RecorderKind}
use Rattle.recording_table.specs.Steps.{MayTake, Writes}
use Rattle.recording_table.proofs.Writing.{books_writes}
use Rattle.recording_table.proofs.entries.book_as.Goals as goal

pub add_as-requires-clause-may : goal.add_as-requires-clause-may
add_as-requires-clause-may g c = subst (λ (k : RecorderKind). MayTake (view c.args.seat.now) k) (sym c.requires.kind) c.requires.may

pub add_as-requires-clause-writes : goal.add_as-requires-clause-writes
add_as-requires-clause-writes g c =
    subst (λ (k : RecorderKind). Writes (view c.args.seat.now) k (λ (n : ℕ). (n + 1) % 2 ^ 64)) (sym c.requires.kind)
    (books_writes (view c.args.seat.now) (claim_of c.args.claim.now) c.args.entry.now c.requires.may)
