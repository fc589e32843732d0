use Rattle.std.proofs.Common.{◌≡◌, ◌≤◌, ◌+◌, ℕ, drop}
use Rattle.std.specs.Prelude.{◌*◌}
use Rattle.farm_types.specs.declared.limits.TheConstants.{MOST_DEPENDS}
use Rattle.indexmap.specs.IndexMap.{index_map_len, spare}
use Rattle.depend_book.specs.Rows.{last_from, last_in, none_seen}
use Rattle.depend_book.proofs.room.note_all.Given as goal

abbrev pub invariant-loop-place : goal.invariant-loop-place
invariant-loop-place l = record {
  last : (job : ℕ) → last_from (last_in l.newest) (drop l.place-index l.places) job ≡ last_from none_seen l.places job;
  fewer : index_map_len l.newest ≤ l.place-index;
  room : 2 * MOST_DEPENDS ≤ index_map_len l.newest + spare l.newest;
}
