use Rattle.std.proofs.Common.{◌≡◌, [], take, drop}
use Rattle.farm_types.specs.Jobs.{repeated_name}
use Rattle.job_book.proofs.PlacementLemmas.Names.{names_onto}
use Rattle.job_book.proofs.placement.check.check_layers.Given as goal

abbrev pub invariant-loop-place : goal.invariant-loop-place
invariant-loop-place l = repeated_name (names_onto (take l.place l.layers) []) (drop l.place l.layers) ≡ repeated_name [] l.layers
