use Rattle.std.proofs.Common.{◌≡◌, drop}
use Rattle.farm_types.specs.Farm.{limit_from}
use Rattle.limit_book.proofs.read.number_of.Given as goal

abbrev pub invariant-loop-place : goal.invariant-loop-place
invariant-loop-place l = limit_from l.place l.name (drop l.place l.rows) ≡ limit_from 0 l.name l.rows
