use Rattle.std.proofs.Common.{◌≡◌, ◌++◌, drop}
use Rattle.sub_ledger.specs.Inside.{rows_from}
use Rattle.sub_ledger.proofs.restore.rows_of.Given as goal

-- the rows so far and those of the places that are left are all
abbrev pub invariant-loop-place : goal.invariant-loop-place
invariant-loop-place l = l.rows.items ++ rows_from l.place (drop l.place l.places) ≡ rows_from 0 l.places
