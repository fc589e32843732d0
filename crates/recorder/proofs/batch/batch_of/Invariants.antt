use Rattle.std.proofs.Common.{◌≡◌, ◌++◌, drop}
use Rattle.store_law.specs.Stored.{deletes_in, puts_in}
use Rattle.recorder.proofs.batch.batch_of.Given as goal

-- the changes so far and those that are left are all
abbrev pub invariant-loop-change : goal.invariant-loop-change
invariant-loop-change l = record {
  puts : l.batch.puts ++ puts_in (drop l.change-index l.changes) ≡ puts_in l.changes;
  deletes : l.batch.deletes ++ deletes_in (drop l.change-index l.changes) ≡ deletes_in l.changes;
}
