use Rattle.std.proofs.Common.{◌≡◌, []}
use Rattle.booking_table.specs.Seats.{IsSameSeat, view}
use Rattle.recording_core.specs.Records.{desk_in}
use Rattle.recording_turns.specs.Carrying.{Goes}
use Rattle.recording_turns.proofs.carrying.carry_slots.Given as goal

-- the turns so far were carried out, where they are of slots
abbrev pub invariant-loop-turn : goal.invariant-loop-turn
invariant-loop-turn l = record {
  same : IsSameSeat l.fn.seat l.seat;
  goes : Goes (view l.fn.seat) l.farm l.turns l.resized l.turn-index 0 (view l.seat);
  hosts : (desk_in (view l.seat).desk).hosts ≡ [];
}
