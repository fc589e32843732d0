use Rattle.booking_table.specs.Seats.{view}
use Rattle.booking_recorder.proofs.Passed.{note_is, noted_same, sees_by}
use Rattle.booking_recorder.proofs.catching_up.see.Goals as goal

pub learn-requires-clause-note : goal.learn-requires-clause-note
learn-requires-clause-note c =
    ((c.note-seen.ensures.made.0.0, c.note-seen.ensures.made.0.1), note_is (view c.args.pass.now) (view c.note-seen.result) c.note-seen.ensures.made.1)

pub returns-clause-same : goal.returns-clause-same
returns-clause-same c = noted_same (view c.args.pass.now) (view c.note-seen.new.seat) c.requires.numbered c.note-seen.ensures.kept

pub returns-clause-behind : goal.returns-clause-behind
returns-clause-behind c =
    (sees_by (view c.args.first.now) (view c.args.pass.now) (view c.note-seen.result) (view c.learn.new.seat) c.requires.home c.requires.numbered
    c.note-seen.ensures.made.1 c.learn.ensures.learned c.learn.ensures.settles).0

pub returns-clause-notices : goal.returns-clause-notices
returns-clause-notices c =
    (sees_by (view c.args.first.now) (view c.args.pass.now) (view c.note-seen.result) (view c.learn.new.seat) c.requires.home c.requires.numbered
    c.note-seen.ensures.made.1 c.learn.ensures.learned c.learn.ensures.settles).1
