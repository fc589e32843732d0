use Rattle.std.proofs.Common.{◌≤◌}
use Rattle.std.specs.Vec.{vec_capacity}
use Rattle.std.specs.Vec.Iter.{into_iter_items}
use Rattle.job_entries.specs.declared.entries.TheConstants.{MOST_PLACES}
use Rattle.job_entries.specs.Restored.{all_in}
use Rattle.job_entries.proofs.RestoredEntries.{IsPart}
use Rattle.job_entries.proofs.restored_entries.entries_of.Given as goal

abbrev pub invariant-loop-row : goal.invariant-loop-row
invariant-loop-row l = record {
  part : IsPart (all_in l.fn.rows.items l.counts l.fn.layers.items l.fn.index.items l.next) l.places.items l.at (into_iter_items l.row-iterator) l.layers.items l.index.items;
  room : MOST_PLACES ≤ vec_capacity l.places;
}
