use Rattle.std.proofs.Common.{◌≡◌, ◌≤◌, ◌+◌, drop, length}
use Rattle.farm_types.specs.Jobs.{free_among, free_in}
use Rattle.farm_types.specs.declared.limits.TheConstants.{SLOT_LIMIT}
use Rattle.job_book.proofs.restoring.book.count_free.Given as goal

abbrev pub invariant-loop-row : goal.invariant-loop-row
invariant-loop-row l = record {
  counted : l.free + free_among (drop l.row-index l.slots) ≡ free_in l.slots;
  bound : l.free + length l.slots ≤ SLOT_LIMIT + l.row-index;
  slot_count : length l.slots ≤ SLOT_LIMIT;
}
