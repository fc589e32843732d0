use Rattle.farm_load.specs.Turns.{Recorded}
use Rattle.farm_load.proofs.TurnLemmas.{has_turned}
use Rattle.farm_load.proofs.turns.take_turn.Goals as goal

-- src/turns.rt:26:1
pub returns : goal.returns
returns g c =
    has_turned c.args.n c.args.recorder.now.farm c.args.reports c.in-Some.host c.pop_front.new.self.items c.args.counts.now c.host_turn.new.counts c.in_ok-launched.launched tt
    c.host_turn.new.recorder.farm c.push_back_reserved.new.self.items (Recorded g.K.Keeper.tells g.K.Keeper.faults c.args.recorder.now c.host_turn.new.recorder)
    c.in_ok-launched.ensures c.push_back_reserved.ensures.items c.args.hosts.now.items c.in-Some.ensures.items c.requires.ready.formed
