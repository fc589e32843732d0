-- The table that was made, and the farm that was loaded, with which its journal begins.
use Rattle.booking_rule.specs.Link.{opening_of}
use Rattle.serving_tests.proofs.passes.passes_had.Given as goal

abbrev pub ghosts-count_passes-N-Naming : goal.ghosts-count_passes-N-Naming
ghosts-count_passes-N-Naming g a = record { table = a.table }

abbrev pub ghosts-count_passes-N-Opened : goal.ghosts-count_passes-N-Opened
ghosts-count_passes-N-Opened g a = record { opening = opening_of a.farm }
