use Rattle.std.proofs.Common.{length, sym, ap, ◌∙◌}
use Rattle.frame_words.specs.declared.frame_word.FrameWord.{FrameWord}
use Rattle.frame_words.specs.Bits.{frame_bits}
use Rattle.booking_table.specs.Seats.{view}
use Rattle.recording_turns.proofs.PlacingAsks.{free_may}
use Rattle.recording_turns.proofs.PlacingDesk.{skipped}
use Rattle.recording_turns.proofs.PlacingSteps.{never_used, turn_left}
use Rattle.recording_turns.proofs.placing.place_free.Goals as goal

pub returns-then-word-eq0-clause-placed : goal.returns-then-word-eq0-clause-placed
returns-then-word-eq0-clause-placed c =
    let f = c.args.farm.now in
    skipped f (length f.limits) c.args.slot (view c.args.seat.now) c.requires.placed
    (never_used f c.args.slot c.args.word c.requires.word c.requires.free (sym (ap (λ (x : FrameWord). x.version) c.word.view_is) ∙ c.if-word-eq0.true))

pub turn_slot-requires-clause-may : goal.turn_slot-requires-clause-may
turn_slot-requires-clause-may c =
    let f = c.args.farm.now in
    free_may f (length f.limits) c.args.slot (view c.args.seat.now) c.requires.placed c.args.word c.requires.within.0 c.requires.within.1
    c.requires.word c.requires.free (λ e. c.if-word-eq0.false (ap (λ (x : FrameWord). x.version) c.word.view_is ∙ e))

pub returns-clause-placed : goal.returns-clause-placed
returns-clause-placed c =
    let f = c.args.farm.now in
    let turned = c.turn_slot.ensures.turned in
    (turn_left f (length f.limits) c.args.slot (view c.args.seat.now) (view c.turn_slot.new.seat) c.requires.placed (frame_bits c.args.word) turned.0 turned.2).0
