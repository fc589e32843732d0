use Rattle.std.proofs.Common.{ap}
use Rattle.booking_table.specs.Seats.{view}
use Rattle.farm_stands.specs.declared.words.SlotWords.{SlotWords}
use Rattle.recording_turns.proofs.CarryingSlots.{amounts_written}
use Rattle.recording_turns.proofs.carrying.write_amount.Goals as goal

pub returns-clause-amounts : goal.returns-clause-amounts
returns-clause-amounts c =
    let set = c.set_amount.ensures.set in
    (amounts_written (view c.args.seat.now) c.args.farm.now c.args.slot c.args.frame.now c.args.amount.now c.args.resized.now c.requires.ready
    c.args.words.now.amount (ap (λ (w : SlotWords). w.amount) c.requires.words) c.requires.fits.1 (view c.set_amount.new.seat) set.0 set.2).0
