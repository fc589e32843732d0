-- The table that was made, and the farm that was loaded, with which its journal begins.
use Rattle.booking_rule.specs.Link.{opening_of}
use Rattle.serving_tests.proofs.histories.seen_by_both.Given as goal

abbrev pub ghosts-submit_both-N-Naming : goal.ghosts-submit_both-N-Naming
ghosts-submit_both-N-Naming g a = record { table = a.table }

abbrev pub ghosts-submit_both-N-Opened : goal.ghosts-submit_both-N-Opened
ghosts-submit_both-N-Opened g a = record { opening = opening_of a.farm }
