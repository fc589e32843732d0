use Rattle.std.proofs.Common.{◌∙◌, rules}
use Rattle.std.proofs.lemmas.List.Sorted.{answers_always}
use Rattle.farm_types.specs.Rising.{job_key}
use Rattle.farm_types.proofs.Searched.{searched}
use Rattle.job_index.specs.declared.ready_jobs.TheConstants.{JOB_NUMBERS}
use Rattle.job_book.proofs.restoring.counts.number_place.Goals as goal

pub returns : goal.returns
returns c =
    let search_is = c.binary_search_by_key.ensures in
    let by_key = search_is.position job_key (answers_always _ _ _ (λ f a r g called. search rules)) in
    c.unwrap_or.ensures ∙ searched job_key c.args.rows.now 0 JOB_NUMBERS c.requires c.args.job c.binary_search_by_key.result search_is.bound by_key
