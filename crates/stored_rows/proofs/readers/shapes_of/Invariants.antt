use Rattle.std.proofs.Common.{◌≡◌, ◌++◌, drop}
use Rattle.stored_rows.specs.SoFar.{shapes_with}
use Rattle.stored_rows.proofs.readers.shapes_of.Given as goal

abbrev pub invariant-loop-place : goal.invariant-loop-place
invariant-loop-place l = l.shapes ++ shapes_with l.none (drop l.place l.layers) (drop l.place l.known) ≡ shapes_with l.none l.layers l.known
