use Rattle.booking_recorder.proofs.Homes.{recorded_home, step_same}
use Rattle.booking_recorder.proofs.farm_recorder.Recorder.record.Goals as goal

pub invariant_of-self : goal.invariant_of-self
invariant_of-self g c =
    recorded_home g.N.Naming.table c.self.inside.plain.farm c.record_in-result.new.plain.farm c.self.inside.seat c.record_in-result.new.seat c.self.inside.count
    c.counted-self-inside.result c.self.inside.split c.args.entry.now c.record_in-result.result c.is_ok.result c.self.invariant
    (step_same _ _ c.args.entry.now c.self.view_is c.requires.of_entry.legal) c.record_in-result.ensures.seat c.record_in-result.ensures.rests
    c.record_in-result.ensures.leads c.record_in-result.ensures.entered c.is_ok.ensures.value c.counted-self-inside.ensures
