use Rattle.std.proofs.Common.{ℕ, sym, refl, subst}
use Rattle.booking_table.specs.Seats.{view}
use Rattle.recording_core.specs.Records.RecorderKind.{places}
use Rattle.recording_table.specs.Steps.{MayTake}
use Rattle.recording_table.proofs.Writing.{places_writes}
use Rattle.recording_table.proofs.placing.place_slot.Goals as goal

pub swap-requires-clause-may : goal.swap-requires-clause-may
swap-requires-clause-may c =
    subst (λ (bits : ℕ). MayTake (view c.args.seat.now) (places c.args.slot bits)) (sym c.pack-word.ensures.word) c.requires.may

pub swap-requires-clause-writes : goal.swap-requires-clause-writes
swap-requires-clause-writes c = places_writes (view c.args.seat.now) c.args.slot c.pack-word.result c.pack-word.result refl
