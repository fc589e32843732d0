use Rattle.std.proofs.Common.{◌≡◌, List, ◌++◌, ◌∷◌, [], subst, sym}
use Rattle.std.specs.Prelude.{OnErr, OnOk}
use Rattle.world_law.specs.declared.event.Event.{Event}
use Rattle.world_law.specs.World.{World}
use Rattle.world_core.specs.Stepping.{Comes, Steps}
use Rattle.world_core.proofs.Steps.{steps_noted}
use Rattle.world_core.proofs.parts.Parts.step_noted.Goals as goal

pub returns : goal.returns
returns c =
    let w = c.args.self.now in
    let e = c.args.event.now in
    let r = c.happen_noted-stepped.result in
    let n = c.happen_noted-stepped.new.self in
    let all = c.happen_noted-stepped.new.events.items in
    let comes = subst (λ (v : World). Comes v e r n) c.take_events-events.ensures.bare c.happen_noted-stepped.ensures.comes in
    let noted = subst (λ (es : List Event). OnOk r (all ≡ es ++ e ∷ [])) c.take_events-events.ensures.events c.happen_noted-stepped.ensures.noted in
    let same = subst (λ (es : List Event). OnErr r (all ≡ es)) c.take_events-events.ensures.events c.happen_noted-stepped.ensures.same in
    subst (λ (v : World). Steps w e r v) (sym c.put_events.ensures) (steps_noted w e r n all comes noted same)
