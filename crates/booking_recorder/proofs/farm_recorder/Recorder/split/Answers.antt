use Rattle.std.proofs.Common.{arith}
use Rattle.std.proofs.lemmas.Bool.Decides.{nat_tests}
use Rattle.booking_recorder.proofs.Rests.{split_home}
use Rattle.booking_recorder.proofs.farm_recorder.Recorder.split.Goals as goal

pub invariant_of-self : goal.invariant_of-self
invariant_of-self g c =
    split_home g.N.Naming.table c.self.inside.plain.farm c.self.inside.seat c.split-seat.new.seat c.self.inside.count c.self.inside.split
    c.self.invariant c.split-seat.ensures.same c.split-seat.ensures.kept (grind (arith, nat_tests))
