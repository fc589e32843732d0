-- Nothing hinders a recorder alone that has room.
use Rattle.line_answers.proofs.EntryLemmas.{never_hindered}
use Rattle.line_answers.proofs.ToldLemmas.{answered_alone}
use Rattle.line_answers.proofs.answer.answer_alone.Goals as goal

pub unhindered-requires : goal.unhindered-requires
unhindered-requires g c =
    never_hindered c.args.recorder.now c.answer_entry-came.new.recorder c.args.entry.now c.answer_entry-came.result c.requires.alone c.requires.room
    c.answer_entry-came.ensures.hindered

pub returns-clause-answer : goal.returns-clause-answer
returns-clause-answer g c =
    answered_alone g.K.Keeper.commits g.K.Keeper.tells g.K.Keeper.faults c.args.recorder.now c.answer_entry-came.new.recorder c.args.entry.now
    c.answer_entry-came.result c.unhindered.result c.unhindered.ensures c.answer_entry-came.ensures.answer
