use Rattle.std.proofs.Common.{◌∙◌, [], map, reverse, ap}
use Rattle.std.specs.List.{filter}
use Rattle.std.proofs.lemmas.List.{reverse-reverse}
use Rattle.farm_types.specs.Farm.{Farm}
use Rattle.farm_types.specs.Finish.{waits_by}
use Rattle.farm_types.specs.Rising.{depend_key}
use Rattle.depend_book.specs.Book.{DependLists, waiting_in}
use Rattle.farm_core.proofs.Waiting.{told_back}
use Rattle.farm_core.proofs.farm.Farm.waiting.Goals as goal

pub returns : goal.returns
returns c =
    let job = c.args.job in
    let depends = c.self.inside.books.farm.depends in
    let back = c.into_vec-numbers.ensures ∙ (c.in_ok-waiting.ensures ∙ (ap (λ (b : DependLists). waiting_in b job) c.depends.ensures ∙ told_back job [] depends)) in
    c.reverse.ensures.items
    ∙ (ap reverse back
    ∙ (reverse-reverse (map depend_key (filter (waits_by job) depends))
    ∙ ap (λ (f : Farm). map depend_key (filter (waits_by job) f.depends)) c.self.view_is))
