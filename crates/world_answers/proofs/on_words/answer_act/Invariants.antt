-- The table's name is the one that was made.
use Rattle.world_answers.proofs.on_words.answer_act.Given as goal

abbrev pub ghosts-answer_act_on : goal.ghosts-answer_act_on
ghosts-answer_act_on a = record { table = a.table.now }
