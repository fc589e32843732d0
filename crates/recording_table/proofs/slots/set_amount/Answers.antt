use Rattle.std.proofs.Common.{ℕ, sym, refl, subst}
use Rattle.booking_table.specs.Seats.{view}
use Rattle.recording_core.specs.Records.RecorderKind.{sets_amount}
use Rattle.recording_table.specs.Steps.{MayTake}
use Rattle.recording_table.proofs.Writing.{sets_amount_writes}
use Rattle.recording_table.proofs.slots.set_amount.Goals as goal

pub swap-found-requires-clause-may : goal.swap-found-requires-clause-may
swap-found-requires-clause-may c =
    subst (λ (bits : ℕ). MayTake (view c.args.seat.now) (sets_amount c.args.slot bits)) (sym c.pack-word.ensures.word) c.requires.may

pub swap-found-requires-clause-writes : goal.swap-found-requires-clause-writes
swap-found-requires-clause-writes c = sets_amount_writes (view c.args.seat.now) c.args.slot c.pack-word.result c.pack-word.result refl
