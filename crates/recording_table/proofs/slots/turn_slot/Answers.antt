use Rattle.std.proofs.Common.{ℕ, sym, refl, subst}
use Rattle.booking_table.specs.Seats.{view}
use Rattle.recording_core.specs.Records.RecorderKind.{turns}
use Rattle.recording_table.specs.Steps.{MayTake}
use Rattle.recording_table.proofs.Writing.{turns_writes}
use Rattle.recording_table.proofs.slots.turn_slot.Goals as goal

pub swap-found-requires-clause-may : goal.swap-found-requires-clause-may
swap-found-requires-clause-may c =
    subst (λ (bits : ℕ). MayTake (view c.args.seat.now) (turns c.args.slot bits)) (sym c.pack-word.ensures.word) c.requires.may

pub swap-found-requires-clause-writes : goal.swap-found-requires-clause-writes
swap-found-requires-clause-writes c = turns_writes (view c.args.seat.now) c.args.slot c.pack-word.result c.pack-word.result refl
