use Rattle.std.proofs.Common.{◌≡◌, true, false, ap, rules}
use Rattle.frame_words.specs.Bits.{frame_bits}
use Rattle.booking_rule.specs.Rule.{is_booked}
use Rattle.booking_table.specs.Seats.{view}
use Rattle.farm_stands.specs.declared.words.SlotWords.{SlotWords}
use Rattle.recording_turns.proofs.CarryingSlots.{change_noted, word_gave, word_has, word_idle, word_sub}
use Rattle.recording_turns.proofs.carrying.carry_words.Goals as goal

pub change_slot-phase-requires-clause-may : goal.change_slot-phase-requires-clause-may
change_slot-phase-requires-clause-may c =
    let a = c.args in
    let noted = c.write_amount.ensures.noted in
    let v = view c.write_amount.new.seat in
    let word = a.words.now.frame in
    change_noted (view a.seat.now) v a.farm.now a.slot a.frame.now a.amount.now a.resized.now noted c.requires.ready
    word (ap (λ (w : SlotWords). w.frame) c.requires.words) c.requires.fits.0 c.write_amount.ensures.amounts

pub returns-then-not-is_booked-clause-going : goal.returns-then-not-is_booked-clause-going
returns-then-not-is_booked-clause-going c =
    let a = c.args in
    let noted = c.write_amount.ensures.noted in
    let v = view c.write_amount.new.seat in
    let word = a.words.now.frame in
    let s = c.change_slot-phase in
    let idle : is_booked s.result.phase ≡ false = search rules in
    (word_idle (view a.seat.now) v a.farm.now a.slot a.frame.now a.amount.now a.resized.now noted c.requires.ready
    (view s.new.seat) (frame_bits word) s.result s.ensures.changed s.ensures.was s.ensures.on idle).1

pub returns-then-not-is_booked-clause-turned : goal.returns-then-not-is_booked-clause-turned
returns-then-not-is_booked-clause-turned c =
    let a = c.args in
    let noted = c.write_amount.ensures.noted in
    let v = view c.write_amount.new.seat in
    let word = a.words.now.frame in
    let s = c.change_slot-phase in
    let idle : is_booked s.result.phase ≡ false = search rules in
    (word_idle (view a.seat.now) v a.farm.now a.slot a.frame.now a.amount.now a.resized.now noted c.requires.ready
    (view s.new.seat) (frame_bits word) s.result s.ensures.changed s.ensures.was s.ensures.on idle).0

pub sub_at-sub-requires : goal.sub_at-sub-requires
sub_at-sub-requires c =
    let a = c.args in
    let noted = c.write_amount.ensures.noted in
    let v = view c.write_amount.new.seat in
    let word = a.words.now.frame in
    let s = c.change_slot-phase in
    let booked : is_booked s.result.phase ≡ true = search rules in
    record {
      within = word_sub (view a.seat.now) v a.farm.now a.slot a.frame.now a.amount.now a.resized.now noted c.requires.ready
          (view s.new.seat) (frame_bits word) s.result s.ensures.changed s.ensures.was s.ensures.on booked;
    }

pub give_found-requires-clause-held : goal.give_found-requires-clause-held
give_found-requires-clause-held c =
    let a = c.args in
    let noted = c.write_amount.ensures.noted in
    let v = view c.write_amount.new.seat in
    let word = a.words.now.frame in
    let s = c.change_slot-phase in
    let booked : is_booked s.result.phase ≡ true = search rules in
    word_has (view a.seat.now) v a.farm.now a.slot a.frame.now a.amount.now a.resized.now noted c.requires.ready
    (view s.new.seat) (frame_bits word) s.result s.ensures.changed s.ensures.was s.ensures.on booked
    c.sub_at-sub.result c.sub_at-sub.ensures

pub returns-clause-going : goal.returns-clause-going
returns-clause-going c =
    let a = c.args in
    let noted = c.write_amount.ensures.noted in
    let v = view c.write_amount.new.seat in
    let word = a.words.now.frame in
    let s = c.change_slot-phase in
    let booked : is_booked s.result.phase ≡ true = search rules in
    (word_gave (view a.seat.now) v a.farm.now a.slot a.frame.now a.amount.now a.resized.now noted c.requires.ready
    (view s.new.seat) (frame_bits word) s.result s.ensures.changed s.ensures.was s.ensures.on booked
    (view c.give_found.new.seat) c.give_found.ensures.gave).1

pub returns-clause-turned : goal.returns-clause-turned
returns-clause-turned c =
    let a = c.args in
    let noted = c.write_amount.ensures.noted in
    let v = view c.write_amount.new.seat in
    let word = a.words.now.frame in
    let s = c.change_slot-phase in
    let booked : is_booked s.result.phase ≡ true = search rules in
    (word_gave (view a.seat.now) v a.farm.now a.slot a.frame.now a.amount.now a.resized.now noted c.requires.ready
    (view s.new.seat) (frame_bits word) s.result s.ensures.changed s.ensures.was s.ensures.on booked
    (view c.give_found.new.seat) c.give_found.ensures.gave).0
