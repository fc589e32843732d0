-- Of the changes those before the place are left, and those behind it are kept.
use Rattle.std.proofs.Common.{◌≤◌, drop, length, take}
use Rattle.farm_rows.specs.Seen.{HasRoom, seen_parts}
use Rattle.farm_rows.proofs.Exactness.{IsExact}
use Rattle.farm_rows.proofs.last_changes.exactly.Given as goal

abbrev pub invariant-loop-place : goal.invariant-loop-place
invariant-loop-place g l = record {
  room : HasRoom l.seen l.place;
  within : l.place ≤ length l.changes.items;
  exact : IsExact (g.R.OldRows.farm l.rows) l.fn.changes.items (take l.place l.changes.items) (seen_parts l.seen) (drop l.place l.changes.items);
}

abbrev pub decreases-loop-place : goal.decreases-loop-place
decreases-loop-place g l = l.place
