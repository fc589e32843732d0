use Rattle.std.proofs.Common.{◌≡◌, ◌∙◌, length, nat_eq, sym, subst}
use Rattle.indexmap.specs.IndexMap.{get}
use Rattle.host_book.specs.Life.{with_life}
use Rattle.farm_draft.specs.Drafted.{Drafted}
use Rattle.farm_draft.proofs.LaidRows.{length-laid}
use Rattle.farm_draft.proofs.draft.Draft.count_hosts.Goals as goal

pub returns-clause-value : goal.returns-clause-value
returns-clause-value c =
    let a = c.self.inside in
    subst (λ (d : Drafted). c.count_hosts.result ≡ length d.farm.hosts) c.self.view_is
    (c.count_hosts.ensures.value ∙ sym (length-laid with_life 0 (get nat_eq a.hosts) a.books.now.farm.hosts))
