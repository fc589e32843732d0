use Rattle.std.proofs.Common.{◌∙◌, rules}
use Rattle.std.proofs.lemmas.List.Sorted.{answers_always}
use Rattle.farm_types.specs.Rising.{job_key}
use Rattle.farm_types.proofs.Searched.{searched}
use Rattle.row_index.proofs.lookups.job_place.Goals as goal

pub returns : goal.returns
returns c =
    let search_is = c.binary_search_by_key.ensures in
    let by_key = search_is.position job_key (answers_always _ _ _ (λ f a r g called. search rules)) in
    c.unwrap_or.ensures ∙ searched job_key c.args.jobs.now 0 c.requires.rise.0 c.requires.rise.1 c.args.job c.binary_search_by_key.result search_is.bound by_key
