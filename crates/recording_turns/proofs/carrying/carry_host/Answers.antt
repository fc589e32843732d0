use Rattle.std.proofs.Common.{ap}
use Rattle.booking_table.specs.Seats.{view}
use Rattle.farm_stands.specs.declared.bounds.HostSize.{HostSize}
use Rattle.recording_turns.proofs.CarryingOthers.{may_size, size_turned}
use Rattle.recording_turns.proofs.carrying.carry_host.Goals as goal

pub set_size-requires-clause-may : goal.set_size-requires-clause-may
set_size-requires-clause-may c =
    let size = c.host_size-cores.ensures.size in
    may_size (view c.args.seat.now) c.args.farm.now c.args.resized.now c.requires.going c.args.host c.args.said.now c.requires.opens c.requires.differs
    c.requires.slots c.host_size-cores.result.cores c.host_size-cores.result.memory (ap (λ (s : HostSize). s.cores) size) (ap (λ (s : HostSize). s.memory) size)

pub returns-clause-going : goal.returns-clause-going
returns-clause-going c =
    (size_turned (view c.args.seat.now) c.args.farm.now c.args.resized.now c.requires.going c.args.host c.args.said.now c.requires.opens c.requires.differs
    (view c.set_size.new.seat) c.host_size-cores.result.cores c.host_size-cores.result.memory c.set_size.ensures.set).1
