use Rattle.booking_table.specs.Seats.{view}
use Rattle.booking_recorder.proofs.Passed.{catches_by, note_is}
use Rattle.booking_recorder.proofs.catching_up.inform.Goals as goal

pub learn-requires-clause-note : goal.learn-requires-clause-note
learn-requires-clause-note c =
    ((c.note-seen.ensures.made.0.0, c.note-seen.ensures.made.0.1), note_is (view c.args.pass.now) (view c.note-seen.result) c.note-seen.ensures.made.1)

pub learn-requires-2-clause-note : goal.learn-requires-2-clause-note
learn-requires-2-clause-note c =
    ((c.note-note.ensures.made.0.0, c.note-note.ensures.made.0.1), note_is (view c.learn.new.seat) (view c.note-note.result) c.note-note.ensures.made.1)

pub returns-clause-catches_up : goal.returns-clause-catches_up
returns-clause-catches_up c =
    catches_by (view c.args.first.now) (view c.args.pass.now) (view c.note-seen.result) (view c.learn.new.seat) (view c.note-note.new.seat)
    (view c.note-note.result) (view c.note-seen.new.seat) (view c.learn-2.new.seat) c.requires.home c.requires.numbered c.note-seen.ensures.made.1
    c.learn.ensures.learned c.learn.ensures.settles c.note-note.ensures.kept c.note-note.ensures.made.1 c.note-seen.ensures.kept c.learn-2.ensures.learned
