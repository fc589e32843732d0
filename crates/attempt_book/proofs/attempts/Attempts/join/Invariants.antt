use Rattle.std.proofs.Common.{◌≡◌, ◌-◌, ◌<◌, ◌≤◌, Some}
use Rattle.std.specs.List.{slice_get}
use Rattle.farm_types.specs.declared.attempt.ProcRow.{ProcRow}
use Rattle.attempt_book.specs.Way.{mark_on}
use Rattle.attempt_book.proofs.attempts.Attempts.join.Given as goal

abbrev pub invariant-loop-at : goal.invariant-loop-at
invariant-loop-at l = record {
  within : l.from ≤ l.slot-inside.0;
  behind : 0 < l.from → (p : ProcRow) × (slice_get l.self-inside.procs.items (l.from - 1) ≡ Some (Some p)) × (p.host ≡ l.fn.host);
  at_is : l.at ≡ mark_on l.self-inside.procs.items l.fn.host l.from;
}

abbrev pub decreases-loop-at : goal.decreases-loop-at
decreases-loop-at l = l.slot-inside.0 - l.at
