use Rattle.std.proofs.Common.{◌≡◌, rules, subst, Some, None, Err, List, ℕ}
use Rattle.std.specs.Prelude.{slice_get}
use Rattle.world_law.specs.declared.event.Event.TheVariants as event
use Rattle.world_law.specs.declared.fault.WorldFault.TheVariants as fault
use Rattle.world_law.specs.World.{World}
use Rattle.world_core.specs.Inside.{world_of}
use Rattle.world_core.specs.Stepping.{Comes, Takes}
use Rattle.world_core.proofs.Steps.{tell_comes, tell_none, with_hosts}
use Rattle.world_core.proofs.parts.Parts.tell.Goals as goal

pub returns-in_default : goal.returns-in_default
returns-in_default c =
    let w = world_of c.self.inside in
    let none : slice_get w.told c.args.line ≡ None = search rules in
    subst (λ (v : World). Comes v (event.ToHost c.args.line) (Err fault.NoSuch) v) c.self.view_is (tell_none w c.args.line none)

pub returns : goal.returns
returns c =
    let w = world_of c.self.inside in
    let there : slice_get w.told c.args.line ≡ Some c.in-Some.told.now = search rules in
    let takes =
    subst (λ (line : List ℕ). Takes w.hosts c.in-Some.told.now.host line c.take.result c.take.new.hosts.items) c.as_slice-2.ensures c.take.ensures in
    subst (λ (v : World). Comes v (event.ToHost c.args.line) c.take.result (with_hosts w c.take.new.hosts.items)) c.self.view_is
    (tell_comes w c.args.line c.in-Some.told.now c.take.result c.take.new.hosts.items there takes)
