use Rattle.std.proofs.Common.{◌≡◌, ◌++◌}
use Rattle.std.specs.Prelude.{replicate}
use Rattle.std.specs.Vec.{vec_capacity}
use Rattle.farm_rows.specs.Recovery.{unused_slot}
use Rattle.stored_rows.proofs.frame_row.fill.Given as goal

abbrev pub invariant-loop : goal.invariant-loop
invariant-loop l = record {
  items : l.slots.items ≡ l.fn.slots.items ++ replicate l.counter unused_slot;
  room : vec_capacity l.slots ≡ vec_capacity l.fn.slots;
}
