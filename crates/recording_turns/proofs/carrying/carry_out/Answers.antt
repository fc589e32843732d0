use Rattle.booking_table.specs.Seats.{view}
use Rattle.recording_turns.proofs.CarryingTurns.{at_rest}
use Rattle.recording_turns.proofs.carrying.carry_out.Goals as goal

pub returns-clause-rests : goal.returns-clause-rests
returns-clause-rests c =
    at_rest (view c.carry_slots.new.seat) c.args.farm.now c.args.turns.now c.args.resized (view c.carry_others.new.seat) c.carry_others.ensures.goes
