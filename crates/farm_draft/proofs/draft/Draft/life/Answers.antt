use Rattle.std.proofs.Common.{◌≡◌, ◌∙◌, nat_eq, Option, Some, None, ap, refl, sym, subst, option_map}
use Rattle.std.specs.List.{slice_get}
use Rattle.indexmap.specs.IndexMap.{get}
use Rattle.host_book.specs.Life.{life_of, with_life}
use Rattle.host_book.specs.declared.life.HostLife.{HostLife}
use Rattle.farm_draft.specs.Drafted.{Drafted}
use Rattle.farm_draft.proofs.LaidRows.{seen_over, seen_past, seen_under}
use Rattle.farm_draft.proofs.draft.Draft.life.Goals as goal

pub returns-in_err-life : goal.returns-in_err-life
returns-in_err-life c =
    let a = c.self.inside in
    let past : option_map life_of (slice_get a.books.now.farm.hosts c.args.host) ≡ None = sym c.life.ensures ∙ c.in_err-life.was in
    c.from_residual.ensures
    ∙ subst (λ (d : Drafted). ◌≡◌ {A = Option HostLife} None (option_map life_of (slice_get d.farm.hosts c.args.host))) c.self.view_is
    (sym (seen_past with_life life_of (get nat_eq a.hosts) a.books.now.farm.hosts c.args.host past))

pub returns-in-Some : goal.returns-in-Some
returns-in-Some c =
    let a = c.self.inside in
    let there : option_map life_of (slice_get a.books.now.farm.hosts c.args.host) ≡ Some c.in_ok-life.life = sym c.life.ensures ∙ c.in_ok-life.was in
    let over : get nat_eq a.hosts c.args.host ≡ Some c.in-Some.over = sym (c.life_over.ensures ∙ ap (get nat_eq a.hosts) (c.from.ensures ∙ c.host.view_is)) ∙ c.in-Some.is in
    subst (λ (d : Drafted). Some c.in-Some.over ≡ option_map life_of (slice_get d.farm.hosts c.args.host)) c.self.view_is
    (sym (seen_over with_life life_of (λ p x. refl) (get nat_eq a.hosts) a.books.now.farm.hosts c.args.host c.in-Some.over c.in_ok-life.life there over))

pub returns-in-None : goal.returns-in-None
returns-in-None c =
    let a = c.self.inside in
    let there : option_map life_of (slice_get a.books.now.farm.hosts c.args.host) ≡ Some c.in_ok-life.life = sym c.life.ensures ∙ c.in_ok-life.was in
    let over : get nat_eq a.hosts c.args.host ≡ None = sym (c.life_over.ensures ∙ ap (get nat_eq a.hosts) (c.from.ensures ∙ c.host.view_is)) ∙ c.in-None.is in
    subst (λ (d : Drafted). Some c.in_ok-life.life ≡ option_map life_of (slice_get d.farm.hosts c.args.host)) c.self.view_is
    (sym (seen_under with_life life_of (get nat_eq a.hosts) a.books.now.farm.hosts c.args.host over ∙ there))
