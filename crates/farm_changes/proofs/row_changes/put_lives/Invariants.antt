-- The changes so far and those of the hosts that are left are those of all hosts.
use Rattle.std.proofs.Common.{◌≡◌, ◌++◌, drop}
use Rattle.farm_changes.specs.RowChanges.{lives_put}
use Rattle.farm_changes.proofs.row_changes.put_lives.Given as goal

abbrev pub invariant-loop-entry : goal.invariant-loop-entry
invariant-loop-entry l = l.into.items ++ lives_put l.books.farm.hosts (drop l.entry-index l.lives) ≡ l.fn.into.items ++ lives_put l.books.farm.hosts l.lives
