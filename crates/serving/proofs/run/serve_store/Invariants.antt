-- The table that was made, and the farm that was loaded, with which its journal begins.
use Rattle.booking_rule.specs.Link.{opening_of}
use Rattle.serving.proofs.run.serve_store.Given as goal

abbrev pub ghosts-serve_loaded-N-Naming : goal.ghosts-serve_loaded-N-Naming
ghosts-serve_loaded-N-Naming g a = record { table = a.table }

abbrev pub ghosts-serve_loaded-N-Opened : goal.ghosts-serve_loaded-N-Opened
ghosts-serve_loaded-N-Opened g a = record { opening = opening_of a.farm }
