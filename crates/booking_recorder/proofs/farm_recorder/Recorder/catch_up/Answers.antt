use Rattle.std.proofs.Common.{List, ap, sym, length, ◌∙◌}
use Rattle.farm_types.specs.declared.entry.Entry.{Entry}
use Rattle.booking_recorder.proofs.Passed.{home_still, pass_learnt}
use Rattle.booking_recorder.proofs.farm_recorder.Recorder.catch_up.Goals as goal

pub invariant_of-self : goal.invariant_of-self
invariant_of-self g c =
    home_still g.N.Naming.table c.self.inside.plain.farm c.self.inside.seat c.inform.new.first c.self.inside.count c.self.inside.split c.self.invariant
    c.inform.ensures.first c.inform.ensures.catches_up.gives

pub invariant_of-pass : goal.invariant_of-pass
invariant_of-pass g c =
    pass_learnt g.N.Naming.table c.pass.inside.seat c.inform.new.pass c.pass.inside.count c.self.inside.count c.pass.invariant c.inform.ensures.pass
    c.inform.ensures.catches_up.learns (c.self.invariant.counted ∙ sym (ap (λ (l : List Entry). length l) c.inform.ensures.catches_up.journal))
