use Rattle.std.proofs.Common.{sym, ◌∙◌}
use Rattle.recording_table.proofs.slots.change_slot.Goals as goal

pub turn_slot-requires-clause-may : goal.turn_slot-requires-clause-may
turn_slot-requires-clause-may c =
    let may = c.requires.may in
    let phase = c.requires.phase in
    λ s. (may.0, may.1, (λ e. c.if-phase-eq-WAITING.false (sym phase ∙ e)), (λ e. c.if-phase-eq-RUNNING.false (sym phase ∙ e)), may.2)
