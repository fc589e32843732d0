use Rattle.booking_table.specs.Seats.{view}
use Rattle.booking_recorder.proofs.Ready.{entered_by, may_record_entry, owes_after}
use Rattle.booking_recorder.proofs.entering.enter.Goals as goal

pub record_entry-requires-clause-may : goal.record_entry-requires-clause-may
record_entry-requires-clause-may c = may_record_entry _ _ _ _ _ c.requires.ready

pub carry_out-requires-clause-owes : goal.carry_out-requires-clause-owes
carry_out-requires-clause-owes c = owes_after _ _ _ _ _ _ _ c.requires.ready c.record_entry.ensures.recorded

pub returns-clause-entered : goal.returns-clause-entered
returns-clause-entered c =
    λ v rests has.
    entered_by v (view c.args.seat.now) (view c.record_entry.new.seat) (view c.carry_out.new.seat) c.args.entry.now c.record_entry.result c.args.resized.now
    c.args.room rests has c.record_entry.ensures.recorded c.carry_out.ensures.rests c.carry_out.ensures.went
