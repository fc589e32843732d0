use Rattle.world_core.specs.Inside.{world_of}
use Rattle.world_core.proofs.Named.{answer_names, begin_names, end_names, restart_names, send_names, tell_names}
use Rattle.world_core.proofs.parts.Parts.look_up.Goals as goal

pub returns-in-Send : goal.returns-in-Send
returns-in-Send c =
    send_names (world_of c.self.inside) c.args.self.now c.args.event.now c.has_host.result c.self.view_is
    _ _ c.in-Send.is c.as_slice.ensures.value c.has_host.ensures

pub returns-in-ToCue : goal.returns-in-ToCue
returns-in-ToCue c =
    answer_names (world_of c.self.inside) c.args.self.now c.args.event.now c.has_line.result c.self.view_is
    _ _ _ _ c.in-ToCue.is c.as_slice-in-ToCue.ensures c.has_line.ensures

pub returns-in-ToHost : goal.returns-in-ToHost
returns-in-ToHost c =
    tell_names (world_of c.self.inside) c.args.self.now c.args.event.now c.has_told.result c.self.view_is
    _ _ _ c.in-ToHost.is c.as_slice-in-ToHost.ensures c.as_slice-in-ToHost-2.ensures.value c.has_told.ensures

pub returns-in-Ended : goal.returns-in-Ended
returns-in-Ended c =
    end_names (world_of c.self.inside) c.args.self.now c.args.event.now c.has_running.result c.self.view_is
    _ _ _ _ c.in-Ended.is c.as_slice-in-Ended.ensures.value c.has_running.ensures

pub returns-in-NewLife : goal.returns-in-NewLife
returns-in-NewLife c =
    begin_names (world_of c.self.inside) c.args.self.now c.args.event.now c.has_fresh.result c.self.view_is
    _ _ _ c.in-NewLife.is c.as_slice-in-NewLife.ensures.value c.has_fresh.ensures

pub returns-in-Restart : goal.returns-in-Restart
returns-in-Restart c =
    restart_names (world_of c.self.inside) c.args.self.now c.args.event.now c.has_further.result c.self.view_is
    _ _ _ c.in-Restart.is c.as_slice-in-Restart.ensures.value c.has_further.ensures
