use Rattle.std.proofs.Common.{◌≡◌, ◌≤◌, ◌+◌, length, map, string_bytes, take}
use Rattle.indexmap.specs.IndexSet.{spare}
use Rattle.farm_types.specs.declared.limits.TheConstants.{MOST_HOSTS}
use Rattle.host_book.specs.Inside.{name_of}
use Rattle.host_book.proofs.restore.names_of.Given as goal

abbrev pub invariant-loop-row : goal.invariant-loop-row
invariant-loop-row l = record {
  named : map string_bytes l.names.keys ≡ map name_of (take l.row-index l.rows);
  capacity : MOST_HOSTS ≤ length l.names.keys + spare l.names;
}
