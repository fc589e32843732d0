use Rattle.std.proofs.Common.{◌≡◌, rules, subst, Some, None, Err}
use Rattle.std.specs.Prelude.{slice_get}
use Rattle.world_law.specs.declared.event.Event.TheVariants as event
use Rattle.world_law.specs.declared.fault.WorldFault.TheVariants as fault
use Rattle.world_law.specs.World.{World}
use Rattle.world_core.specs.Inside.{world_of}
use Rattle.world_core.specs.Stepping.{Comes}
use Rattle.world_core.proofs.Steps.{no_memory, start_further, start_none}
use Rattle.world_core.proofs.parts.Parts.restart_at.Goals as goal

pub returns-in_default : goal.returns-in_default
returns-in_default c =
    let w = world_of c.self.inside in
    let none : slice_get w.further c.args.place ≡ None = search rules in
    subst (λ (v : World). Comes v (event.Restart (Some c.args.place) c.args.moment) (Err fault.NoSuch) v) c.self.view_is
    (start_none w c.args.place c.args.moment none)

pub returns-in-Ok : goal.returns-in-Ok
returns-in-Ok c =
    let w = world_of c.self.inside in
    let there : slice_get w.further c.args.place ≡ Some c.in-Some.history.now = search rules in
    start_further c.args.self.now c.args.place c.args.moment tt c.in-Some.history.now c.in-Ok.started c.begin.new.self
    (subst (λ (v : World). slice_get v.further c.args.place ≡ Some c.in-Some.history.now) c.self.view_is there) c.in-Ok.ensures c.begin.ensures

pub returns-in-Err : goal.returns-in-Err
returns-in-Err c = no_memory c.args.self.now (event.Restart (Some c.args.place) c.args.moment)
