-- The starts, and then the stops.
use Rattle.std.proofs.Common.{◌≡◌, ◌++◌, sym}
use Rattle.cue_io.specs.Growth.{Grows-append}
use Rattle.rqd_launcher.specs.Carries.{starts_of, stops_of, tasks_of}
use Rattle.rqd_launcher.proofs.Carrying.{last_done, more_done, none_done}
use Rattle.rqd_launcher.proofs.carry.carry_out.Goals as goal

pub returns : goal.returns
returns g c =
    let starts = c.as_slice.result.now in
    let stops = c.as_slice-2.result.now in
    let are : tasks_of c.args.orders.now ≡ starts_of starts ++ stops_of stops = λ i. starts_of (sym c.as_slice.ensures i) ++ stops_of (sym c.as_slice-2.ensures i) in
    let calls = g.P.Spawner.calls in
    let started = c.in_ok-start_all.ensures in
    let stopped = c.stop_all.ensures in
    let begun = none_done (tasks_of c.args.orders.now) c.args.rqd.now (g.P.Spawner.faults c.args.spawner.now) in (
      started.0 ++ stopped.0,
      last_done (more_done begun (stops_of stops) started.1 are) (stopped.1 c.start_all.new.rqd),
      Grows-append (calls c.args.spawner.now) (calls c.start_all.new.spawner) (calls c.stop_all.new.spawner) started.0 stopped.0 started.2 stopped.2,
    )
