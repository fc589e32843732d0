-- A slot whose frame may be booked has no live attempt.
use Rattle.std.proofs.Common.{◌≡◌, ◌∙◌, ℕ, true, None, ap}
use Rattle.std.specs.Prelude.{option_and_then}
use Rattle.farm_types.specs.declared.slot_row.SlotRow.{SlotRow}
use Rattle.farm_types.specs.Booking.{may_record}
use Rattle.farm_types.specs.Farm.{Farm}
use Rattle.farm_types.specs.Run.{IsSound, live_at}
use Rattle.farm_law.proofs.Booked.{slot_has_none}
use Rattle.farm_law.proofs.CanBook.{can_book}

pub waiting_free : (f : Farm) (slot host : ℕ) → IsSound f → may_record f slot host ≡ true → live_at f slot ≡ None
waiting_free f slot host sound allowed =
    let found = can_book f slot host allowed in
    let r = found.0 in
    ap (option_and_then (λ (s : SlotRow). s.proc)) found.1.slot_is
    ∙ slot_has_none slot r.slot.version r.slot.frame r.slot.proc r.frame found.1.frame_is found.1.waits (sound.attempts slot r.slot found.1.slot_is)
