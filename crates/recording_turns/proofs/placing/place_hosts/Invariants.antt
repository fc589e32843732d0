-- The hosts so far were placed.
use Rattle.std.proofs.Common.{[]}
use Rattle.booking_table.specs.Seats.{view, IsSameSeat}
use Rattle.recording_turns.specs.Placed.{IsPlacing, Onward}
use Rattle.recording_turns.proofs.placing.place_hosts.Given as goal

abbrev pub invariant-loop-number : goal.invariant-loop-number
invariant-loop-number l = record {
  same : IsSameSeat l.fn.seat l.seat;
  placing : IsPlacing l.farm l.number 0 0 [] (view l.seat);
  onward : Onward (view l.fn.seat) (view l.seat);
}
