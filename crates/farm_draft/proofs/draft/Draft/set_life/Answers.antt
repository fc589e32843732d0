use Rattle.std.proofs.Common.{◌≡◌, ◌∙◌, ℕ, nat_eq, subst}
use Rattle.indexmap.specs.IndexMap.{get}
use Rattle.farm_draft.specs.Drafted.{Drafted, with_host}
use Rattle.farm_draft.specs.Inside.{over_farm}
use Rattle.farm_draft.proofs.OverFarm.{over_farm-host}
use Rattle.farm_draft.proofs.draft.Draft.set_life.Goals as goal

pub returns : goal.returns
returns c =
    let a = c.self.inside in
    let next = get nat_eq c.insert.new.self in
    let updates = c.in_ok-insert.ensures.updates in
    let number : c.from.result ≡ c.args.host = c.from.ensures ∙ c.host.view_is in
    subst (λ (n : ℕ). over_farm a.books.now.farm a.moment next (get nat_eq a.slots) ≡ with_host c.args.self.now n c.args.life) number
    (subst (λ (d : Drafted). over_farm a.books.now.farm a.moment next (get nat_eq a.slots) ≡ with_host d c.from.result c.args.life) c.self.view_is
    (over_farm-host a.books.now.farm a.moment (get nat_eq a.hosts) (get nat_eq a.slots) next c.from.result c.args.life updates.1 updates.2))
