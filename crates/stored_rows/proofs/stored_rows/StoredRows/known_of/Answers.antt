use Rattle.std.proofs.Common.{◌≡◌, ◌∙◌, ap, drop, map, subst, take, List}
use Rattle.farm_types.specs.declared.rows.LayerRow.{LayerRow}
use Rattle.farm_types.specs.Farm.{layers_of}
use Rattle.row_index.specs.Index.{LayerKnown}
use Rattle.stored_rows.specs.Known.{layer_known}
use Rattle.stored_rows.specs.Told.{Told}
use Rattle.stored_rows.proofs.LayerKept.{part_mapped}
use Rattle.stored_rows.proofs.stored_rows.StoredRows.known_of.Goals as goal

pub returns : goal.returns
returns c =
    let a = c.self.inside in
    let known = layer_known a.lists.slots.items in
    let bounds = c.layer_bounds-first.result in
    let layers = subst (λ (xs : List LayerRow). take bounds.1 (drop bounds.0 xs) ≡ layers_of xs c.args.job) c.as_slice.ensures.value c.layer_bounds-first.ensures.layers in
    c.part_of.ensures ∙ ap (λ (ks : List LayerKnown). take bounds.1 (drop bounds.0 ks)) (c.as_slice-2.ensures.value ∙ c.self.invariant.told.of_layers.known)
    ∙ part_mapped known bounds.0 bounds.1 a.lists.layers.items ∙ ap (map known) layers
    ∙ ap (λ (t : Told). map (layer_known t.farm.slots) (layers_of t.farm.layers c.args.job)) c.self.view_is
