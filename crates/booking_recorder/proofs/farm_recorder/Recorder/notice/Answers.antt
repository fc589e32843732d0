use Rattle.booking_recorder.proofs.Passed.{home_noticed}
use Rattle.booking_recorder.proofs.farm_recorder.Recorder.notice.Goals as goal

pub invariant_of-self : goal.invariant_of-self
invariant_of-self g c =
    home_noticed g.N.Naming.table c.self.inside.plain.farm c.self.inside.seat c.see.new.first c.self.inside.count c.self.inside.split c.self.invariant
    c.see.ensures.first c.see.ensures.notices
