use Rattle.std.proofs.Common.{length}
use Rattle.booking_table.specs.Seats.{IsSameSeat, view}
use Rattle.recording_turns.specs.Carrying.{Goes}
use Rattle.recording_turns.proofs.carrying.carry_others.Given as goal

-- the turns of slots, and those so far, were carried out
abbrev pub invariant-loop-turn : goal.invariant-loop-turn
invariant-loop-turn l = record {
  same : IsSameSeat l.fn.seat l.seat;
  goes : Goes (view l.fn.seat) l.farm l.turns l.resized (length l.turns) l.turn-index (view l.seat);
}
