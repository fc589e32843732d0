use Rattle.std.proofs.Common.{◌∙◌, rules}
use Rattle.std.proofs.lemmas.List.Sorted.{answers_always}
use Rattle.farm_types.proofs.Searched.{searched}
use Rattle.job_entries.specs.Entries.{place_key}
use Rattle.job_entries.proofs.places.place_in.Goals as goal

pub returns : goal.returns
returns c =
    let search_is = c.binary_search_by_key.ensures in
    let by_key = search_is.position place_key (answers_always _ _ _ (λ f a r g called. search rules)) in
    c.unwrap_or.ensures ∙ searched place_key c.args.places.now 0 c.requires.next c.requires.rise c.args.job c.binary_search_by_key.result search_is.bound by_key
