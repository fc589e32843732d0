use Rattle.std.proofs.Common.{rules}
use Rattle.booking_table.specs.Seats.{view}
use Rattle.booking_recorder.proofs.Confirmed.{confirmed_home, may_count}
use Rattle.booking_recorder.proofs.farm_recorder.Recorder.confirm.Goals as goal

pub counted-self-inside-requires : goal.counted-self-inside-requires
counted-self-inside-requires g c =
    may_count g.N.Naming.table c.self.inside.plain.farm c.confirm_in-result.new.plain.farm c.self.inside.seat (view c.confirm_in-result.new.seat)
    c.self.inside.count c.self.inside.split c.args.claim c.args.moment c.confirm_in-result.result c.is_ok.result c.self.invariant (search rules)
    c.confirm_in-result.ensures.confirms c.is_ok.ensures.value

pub invariant_of-self : goal.invariant_of-self
invariant_of-self g c =
    confirmed_home g.N.Naming.table c.self.inside.plain.farm c.confirm_in-result.new.plain.farm c.self.inside.seat c.confirm_in-result.new.seat
    c.self.inside.count c.counted-self-inside.result c.self.inside.split c.args.claim c.args.moment c.confirm_in-result.result c.is_ok.result c.self.invariant
    (search rules) c.confirm_in-result.ensures.seat c.confirm_in-result.ensures.rests c.confirm_in-result.ensures.leads c.confirm_in-result.ensures.confirms
    c.is_ok.ensures.value c.counted-self-inside.ensures
