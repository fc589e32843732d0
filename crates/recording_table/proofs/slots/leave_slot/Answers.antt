use Rattle.std.proofs.Common.{ℕ, sym, refl, subst}
use Rattle.booking_table.specs.Seats.{view}
use Rattle.recording_core.specs.Records.RecorderKind.{leaves}
use Rattle.recording_table.specs.Steps.{MayTake}
use Rattle.recording_table.proofs.Writing.{leaves_writes}
use Rattle.recording_table.proofs.slots.leave_slot.Goals as goal

pub swap-found-requires-clause-may : goal.swap-found-requires-clause-may
swap-found-requires-clause-may c =
    subst (λ (bits : ℕ). MayTake (view c.args.seat.now) (leaves c.args.slot bits)) (sym c.pack-word.ensures.word) c.requires.may

pub swap-found-requires-clause-writes : goal.swap-found-requires-clause-writes
swap-found-requires-clause-writes c = leaves_writes (view c.args.seat.now) c.args.slot c.pack-word.result c.pack-word.result refl
