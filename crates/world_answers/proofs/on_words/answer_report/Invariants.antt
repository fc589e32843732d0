-- The table's name is the one that was made.
use Rattle.world_answers.proofs.on_words.answer_report.Given as goal

abbrev pub ghosts-answer_report_on : goal.ghosts-answer_report_on
ghosts-answer_report_on a = record { table = a.table.now }
