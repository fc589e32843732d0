-- The table's name is the one that was made.
use Rattle.session.proofs.run.run_cuebot.Given as goal

abbrev pub ghosts-run_form : goal.ghosts-run_form
ghosts-run_form g a = record { table = a.table.now }
