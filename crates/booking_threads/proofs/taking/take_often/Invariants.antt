-- It is the same seat, with nothing in flight, and each take was counted.
use Rattle.std.proofs.Common.{◌≡◌, ◌+◌}
use Rattle.booking_table.specs.Seats.{view, IsSeatOf}
use Rattle.booking_threads.specs.Free.{StaysFree}
use Rattle.booking_threads.proofs.taking.take_often.Given as goal

abbrev pub invariant-loop-time : goal.invariant-loop-time
invariant-loop-time l = record {
  table : IsSeatOf l.table l.seat;
  free : StaysFree (view l.fn.seat) (view l.seat);
  counted : l.granted + l.refused ≡ l._time;
}
