-- The slots so far were placed.
use Rattle.std.proofs.Common.{length}
use Rattle.booking_table.specs.Seats.{view, IsSameSeat}
use Rattle.recording_turns.specs.Placed.{HasPlaced, Onward}
use Rattle.recording_turns.proofs.placing.place_slots.Given as goal

abbrev pub invariant-loop-number : goal.invariant-loop-number
invariant-loop-number l = record {
  same : IsSameSeat l.fn.seat l.seat;
  placed : HasPlaced l.farm (length l.farm.limits) l.number (view l.seat);
  onward : Onward (view l.fn.seat) (view l.seat);
}
