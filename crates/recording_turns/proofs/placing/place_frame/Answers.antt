use Rattle.std.proofs.Common.{length, refl, sym, ap, ◌∙◌, ◌==◌}
use Rattle.frame_words.specs.declared.frame_word.FrameWord.{FrameWord}
use Rattle.frame_words.specs.Bits.{amount_bits, frame_bits}
use Rattle.booking_rule.proofs.Moves.{same_not}
use Rattle.booking_table.specs.Seats.{view}
use Rattle.recording_turns.proofs.PlacingAsks.{amount_may, amounts_last, frame_may, runs_may}
use Rattle.recording_turns.proofs.PlacingSteps.{amount_left, frame_left}
use Rattle.recording_turns.proofs.placing.place_frame.Goals as goal

pub set_amount-requires-clause-may : goal.set_amount-requires-clause-may
set_amount-requires-clause-may c =
    let f = c.args.farm.now in
    amount_may f (length f.limits) c.args.slot (view c.args.seat.now) c.requires.placed c.args.amount c.requires.within.0 c.requires.amount_fits c.requires.amount
    (ap (λ (x : FrameWord). x.phase == 0) (sym c.requires.word) ∙ same_not c.args.word.phase 0 c.requires.used)

pub place_slot-requires-clause-may : goal.place_slot-requires-clause-may
place_slot-requires-clause-may c =
    let f = c.args.farm.now in
    let n = c.args.slot in
    let v = view c.args.seat.now in
    let u = view c.set_amount.new.seat in
    let set = c.set_amount.ensures.set in
    let placed = (amount_left f (length f.limits) n v u c.requires.placed (amount_bits c.args.amount) set.0 set.2).0 in
    let wrote = amounts_last f (length f.limits) n v c.requires.placed u c.args.amount set.0 c.requires.amount_fits c.requires.amount set.2 in
    runs_may f (length f.limits) n u placed c.kept.ensures.rows refl c.args.word c.requires.within.0 c.requires.within.1 c.requires.word c.if-word-eq-RUNNING.true wrote

pub returns-then-word-eq-RUNNING-clause-placed : goal.returns-then-word-eq-RUNNING-clause-placed
returns-then-word-eq-RUNNING-clause-placed c =
    let f = c.args.farm.now in
    let set = c.set_amount.ensures.set in
    (frame_left f (length f.limits) c.args.slot (view c.args.seat.now) (view c.set_amount.new.seat) (view c.place_slot.new.seat) c.requires.placed
    (amount_bits c.args.amount) set.0 (frame_bits c.args.word) 0 set.2 c.place_slot.ensures.placed).0

pub turn_slot-requires-clause-may : goal.turn_slot-requires-clause-may
turn_slot-requires-clause-may c =
    let f = c.args.farm.now in
    let n = c.args.slot in
    let v = view c.args.seat.now in
    let u = view c.set_amount.new.seat in
    let set = c.set_amount.ensures.set in
    let placed = (amount_left f (length f.limits) n v u c.requires.placed (amount_bits c.args.amount) set.0 set.2).0 in
    let wrote = amounts_last f (length f.limits) n v c.requires.placed u c.args.amount set.0 c.requires.amount_fits c.requires.amount set.2 in
    frame_may f (length f.limits) n u placed c.kept.ensures.rows c.args.word c.requires.within.0 c.requires.within.1 c.requires.word
    (same_not c.args.word.phase 0 c.requires.used) c.if-word-eq-RUNNING.false wrote

pub returns-clause-placed : goal.returns-clause-placed
returns-clause-placed c =
    let f = c.args.farm.now in
    let set = c.set_amount.ensures.set in
    let turned = c.turn_slot.ensures.turned in
    (frame_left f (length f.limits) c.args.slot (view c.args.seat.now) (view c.set_amount.new.seat) (view c.turn_slot.new.seat) c.requires.placed
    (amount_bits c.args.amount) set.0 (frame_bits c.args.word) turned.0 set.2 turned.2).0
