use Rattle.std.proofs.Common.{◌∙◌, rules}
use Rattle.std.proofs.lemmas.List.Sorted.{answers_always}
use Rattle.stored_farm.specs.Kept.{met_id}
use Rattle.farm_types.proofs.Searched.{searched}
use Rattle.stored_farm.proofs.marks.place_of_id.Goals as goal

pub returns : goal.returns
returns c =
    let search_is = c.binary_search_by_key.ensures in
    let by_key = search_is.position met_id (answers_always _ _ _ (λ f a r g called. search rules)) in
    c.unwrap_or.ensures ∙ searched met_id c.args.met.now 0 c.requires.high c.requires.rise c.args.id c.binary_search_by_key.result search_is.bound by_key
