use Rattle.std.proofs.Common.{◌≡◌, drop}
use Rattle.farm_types.specs.Farm.{alloc_from}
use Rattle.alloc_tags.proofs.read.number_in.Given as goal

abbrev pub invariant-loop-place : goal.invariant-loop-place
invariant-loop-place l = alloc_from l.place l.name (drop l.place l.rows) ≡ alloc_from 0 l.name l.rows
