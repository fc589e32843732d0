use Rattle.std.proofs.Common.{rules, ◌≡◌, ◌∙◌, ap, length, not}
use Rattle.farm_types.specs.declared.rows.LayerRow.{LayerRow}
use Rattle.farm_types.specs.Kept.{has_its_limit}
use Rattle.farm_rows.specs.Recovery.{first_layer, lacks_limit}
use Rattle.stored_rows.specs.Told.{Told}
use Rattle.stored_rows.proofs.stored_rows.StoredRows.layer_lacking_limit.Goals as goal

pub returns : goal.returns
returns c =
    let limits : c.len.result ≡ length c.self.inside.lists.limits.items = search rules in
    c.first_unlimited.ensures ∙ (λ i. first_layer (λ (l : LayerRow). not (has_its_limit (limits i) l)) (c.as_slice.ensures.value i))
    ∙ ap (λ (t : Told). first_layer (lacks_limit t.farm) t.farm.layers) c.self.view_is
