use Rattle.std.proofs.Common.{◌≡◌, ℕ, ◌∙◌, ap, sym, subst, eqb, ◌&&◌, option_map, List}
use Rattle.std.specs.List.{position_or_len, slice_get}
use Rattle.std.proofs.lemmas.List.Folds.{find_at}
use Rattle.farm_types.specs.declared.rows.LayerRow.{LayerRow}
use Rattle.farm_types.specs.Farm.{layer_at}
use Rattle.row_index.specs.Index.{LayerKnown}
use Rattle.row_index.proofs.Frames.{got_mapped}
use Rattle.stored_rows.specs.Known.{layer_known}
use Rattle.stored_rows.specs.Told.{Told}
use Rattle.stored_rows.proofs.stored_rows.StoredRows.known_at.Goals as goal

pub returns : goal.returns
returns c =
    let a = c.self.inside in
    let layers = a.lists.layers.items in
    let known = layer_known a.lists.slots.items in
    let at = c.layer_at-at.result in
    let is_it : LayerRow → _ = λ (l : LayerRow). eqb l.job c.args.job && eqb l.place c.args.place in
    let place : at ≡ position_or_len is_it layers = subst (λ (xs : List LayerRow). at ≡ position_or_len is_it xs) c.as_slice.ensures.value c.layer_at-at.ensures in
    c.row_at.ensures ∙ ap (λ (ks : List LayerKnown). slice_get ks at) (c.as_slice-2.ensures.value ∙ c.self.invariant.told.of_layers.known)
    ∙ got_mapped known layers at ∙ ap (λ (n : ℕ). option_map known (slice_get layers n)) place ∙ ap (option_map known) (sym (find_at is_it layers))
    ∙ ap (λ (t : Told). option_map (layer_known t.farm.slots) (layer_at t.farm c.args.job c.args.place)) c.self.view_is
