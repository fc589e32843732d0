use Rattle.std.proofs.Common.{◌≡◌, ◌≤◌, length, take, drop}
use Rattle.job_entries.proofs.restored_entries.take_front.Given as goal

abbrev pub invariant-loop-turn : goal.invariant-loop-turn
invariant-loop-turn g l = record {
  taken : l.front.items ≡ take l._turn l.fn.items.items;
  left : l.items.items ≡ drop l._turn l.fn.items.items;
  fits : l.count ≤ length l.fn.items.items;
}
