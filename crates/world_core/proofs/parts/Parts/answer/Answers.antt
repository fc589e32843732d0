use Rattle.std.proofs.Common.{◌≡◌, rules, subst, Some, None, Ok, Err}
use Rattle.std.specs.Prelude.{slice_get}
use Rattle.world_law.specs.declared.event.Event.TheVariants as event
use Rattle.world_law.specs.declared.fault.WorldFault.TheVariants as fault
use Rattle.world_law.specs.World.{World}
use Rattle.world_answers.specs.Trials.{TriesLine}
use Rattle.world_answers.specs.declared.trial.TrialFault.{TrialFault}
use Rattle.world_core.specs.Inside.{world_of}
use Rattle.world_core.specs.Stepping.{Comes}
use Rattle.world_core.proofs.Answered.{installed_comes, unmade_comes, unsent_comes}
use Rattle.world_core.proofs.Steps.{no_memory}
use Rattle.world_core.proofs.parts.Parts.answer.Goals as goal

pub returns-in_default : goal.returns-in_default
returns-in_default c =
    let w = world_of c.self.inside in
    let none : slice_get w.sent c.args.line ≡ None = search rules in
    subst (λ (v : World). Comes v (event.ToCue c.args.line c.args.moment c.args.refused) (Err fault.NoSuch) v) c.self.view_is
    (unsent_comes w c.args.line c.args.moment c.args.refused none)

pub returns-in-Ok : goal.returns-in-Ok
returns-in-Ok c =
    let w = world_of c.self.inside in
    let there : slice_get w.sent c.args.line ≡ Some c.in-Some.sent.now = search rules in
    installed_comes c.args.self.now c.args.line c.in-Some.sent.now c.args.moment c.args.refused c.in-Ok.trial c.install.result c.install.new.self
    (subst (λ (v : World). slice_get v.sent c.args.line ≡ Some c.in-Some.sent.now) c.self.view_is there)
    (subst (λ (v : World). TriesLine v.now.farm c.in-Some.sent.now.line c.args.moment c.args.refused (Ok c.in-Ok.trial)) c.self.view_is c.in-Ok.ensures)
    c.install.ensures

pub returns-in-Err-NoSuch : goal.returns-in-Err-NoSuch
returns-in-Err-NoSuch c =
    let w = world_of c.self.inside in
    let s = c.in-Some.sent.now in
    let there : slice_get w.sent c.args.line ≡ Some s = search rules in
    let never =
    subst (λ (why : TrialFault). TriesLine w.now.farm s.line c.args.moment c.args.refused (Err why)) c.in-Err-NoSuch.field-0-is c.in-Err-NoSuch.ensures in
    subst (λ (v : World). Comes v (event.ToCue c.args.line c.args.moment c.args.refused) (Err fault.NoSuch) v) c.self.view_is
    (unmade_comes w c.args.line s c.args.moment c.args.refused there never)

pub returns-in-Err-NoMemory : goal.returns-in-Err-NoMemory
returns-in-Err-NoMemory c = no_memory c.args.self.now (event.ToCue c.args.line c.args.moment c.args.refused)
