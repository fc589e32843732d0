use Rattle.std.proofs.Common.{◌≡◌, ◌∙◌, false, sym, ap, subst}
use Rattle.farm_types.specs.Farm.{Farm}
use Rattle.farm_draft.specs.Drafted.{Drafted, with_farm}
use Rattle.host_book.specs.Life.{is_unheard_life}
use Rattle.farm_draft.proofs.HostLives.{stays_heard}
use Rattle.farm_draft.proofs.draft.Draft.expire_one.Goals as goal

pub returns-then-not-is_silent : goal.returns-then-not-is_silent
returns-then-not-is_silent c =
    let d = c.args.self.now in
    let heard : is_unheard_life d.moment c.in-Some.life ≡ false =
    subst (λ (x : Drafted). is_unheard_life x.moment c.in-Some.life ≡ false) c.self.view_is (sym c.is_silent.ensures ∙ c.if-not-is_silent.true) in
    sym (ap (λ (f : Farm). with_farm d f) (stays_heard d.farm d.moment c.args.host c.in-Some.life (sym c.life.ensures ∙ c.in-Some.is) heard))
