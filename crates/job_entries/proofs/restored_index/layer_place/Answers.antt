use Rattle.std.proofs.Common.{◌*◌, ◌∙◌, ℕ, ap, eqb, rules}
use Rattle.std.specs.List.{position_or_len}
use Rattle.std.proofs.lemmas.List.Sorted.{answers_always}
use Rattle.farm_types.specs.Rising.{layer_key}
use Rattle.farm_types.specs.declared.limits.TheConstants.{MOST_LAYERS}
use Rattle.farm_types.proofs.Searched.{searched}
use Rattle.job_index.specs.declared.ready_jobs.TheConstants.{JOB_NUMBERS}
use Rattle.job_entries.proofs.RestoredLayers.{position_is}
use Rattle.job_entries.proofs.restored_index.layer_place.Goals as goal

pub returns : goal.returns
returns c =
    let search_is = c.binary_search_by_key.ensures in
    let by_key = search_is.position layer_key (answers_always _ _ _ (λ f a r g called. search rules)) in
    c.unwrap_or.ensures
    ∙ searched layer_key c.args.layers.now 0 (MOST_LAYERS * JOB_NUMBERS) c.requires.rise c.key_of-key.result c.binary_search_by_key.result search_is.bound by_key
    ∙ ap (λ (k : ℕ). position_or_len (λ l. eqb (layer_key l) k) c.args.layers.now) c.key_of-key.ensures
    ∙ position_is c.args.job c.args.place c.args.layers.now c.requires.within c.requires.formed
