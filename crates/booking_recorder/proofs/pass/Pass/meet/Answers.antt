use Rattle.std.proofs.Common.{◌≡◌, ap, arith, subst}
use Rattle.std.specs.Prelude.{max}
use mathlib.Core.List.{IsPrefix}
use Rattle.booking_rule.specs.declared.view.View.{View}
use Rattle.booking_table.specs.Seats.{view}
use Rattle.booking_recorder.specs.Passing.{Learns, Passing}
use Rattle.booking_recorder.proofs.Passed.{counts_longer, meets, note_is, pass_learnt}
use Rattle.booking_recorder.proofs.pass.Pass.meet.Goals as goal

pub learn-requires-clause-note : goal.learn-requires-clause-note
learn-requires-clause-note g c =
    ((c.note-note.ensures.made.0.0, c.note-note.ensures.made.0.1), note_is (view c.self.inside.seat) (view c.note-note.result) c.note-note.ensures.made.1)

pub invariant_of-into : goal.invariant_of-into
invariant_of-into g c =
    let met = meets (view c.into.inside.seat) (view c.self.inside.seat) (view c.note-note.result) (view c.learn.new.seat) c.self.invariant.numbered
    c.note-note.ensures.made.1 c.learn.ensures.learned c.learn.ensures.settles in
    let longer : c.max-into-inside.result ≡ max c.into.inside.count c.self.inside.count = omega (arith, c.max-into-inside.ensures) in
    pass_learnt g.N.Naming.table c.into.inside.seat c.learn.new.seat c.into.inside.count c.max-into-inside.result c.into.invariant c.learn.ensures.same met.learns
    (counts_longer (view c.into.inside.seat) (view c.self.inside.seat) (view c.learn.new.seat) c.into.inside.count c.self.inside.count c.max-into-inside.result
    c.into.invariant.counted c.self.invariant.counted longer met)

pub returns-clause-learns : goal.returns-clause-learns
returns-clause-learns g c =
    subst (λ (p : View). Learns p (view c.learn.new.seat)) (ap (λ (x : Passing). x.view) c.into.view_is)
    (meets (view c.into.inside.seat) (view c.self.inside.seat) (view c.note-note.result) (view c.learn.new.seat) c.self.invariant.numbered
    c.note-note.ensures.made.1 c.learn.ensures.learned c.learn.ensures.settles).learns

pub returns-clause-told : goal.returns-clause-told
returns-clause-told g c =
    subst (λ (u : View). IsPrefix u.journal (view c.learn.new.seat).journal) (ap (λ (x : Passing). x.view) c.self.view_is)
    (meets (view c.into.inside.seat) (view c.self.inside.seat) (view c.note-note.result) (view c.learn.new.seat) c.self.invariant.numbered
    c.note-note.ensures.made.1 c.learn.ensures.learned c.learn.ensures.settles).told
