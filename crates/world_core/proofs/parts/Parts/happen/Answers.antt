use Rattle.std.proofs.Common.{subst, sym}
use Rattle.world_law.specs.declared.event.Event.{Event}
use Rattle.world_core.specs.Stepping.{Comes}
use Rattle.world_core.proofs.parts.Parts.happen.Goals as goal

pub returns-in-Send : goal.returns-in-Send
returns-in-Send c = subst (λ (e : Event). Comes c.args.self.now e c.send.result c.send.new.self) (sym c.in-Send.is) c.send.ensures

pub returns-in-ToCue : goal.returns-in-ToCue
returns-in-ToCue c = subst (λ (e : Event). Comes c.args.self.now e c.answer.result c.answer.new.self) (sym c.in-ToCue.is) c.answer.ensures

pub returns-in-ToHost : goal.returns-in-ToHost
returns-in-ToHost c = subst (λ (e : Event). Comes c.args.self.now e c.tell.result c.tell.new.self) (sym c.in-ToHost.is) c.tell.ensures

pub returns-in-Ended : goal.returns-in-Ended
returns-in-Ended c = subst (λ (e : Event). Comes c.args.self.now e c.end.result c.end.new.self) (sym c.in-Ended.is) c.end.ensures

pub returns-in-NewLife : goal.returns-in-NewLife
returns-in-NewLife c = subst (λ (e : Event). Comes c.args.self.now e c.begin_life.result c.begin_life.new.self) (sym c.in-NewLife.is) c.begin_life.ensures

pub returns-in-Restart : goal.returns-in-Restart
returns-in-Restart c = subst (λ (e : Event). Comes c.args.self.now e c.restart.result c.restart.new.self) (sym c.in-Restart.is) c.restart.ensures
