use Rattle.std.proofs.Common.{◌≡◌, ℕ, List, ◌∙◌, ap, sym, option_map}
use Rattle.std.specs.List.{position_or_len, slice_get}
use Rattle.std.specs.Str.{bytes_eq}
use Rattle.std.proofs.lemmas.List.Folds.{find_at}
use Rattle.farm_types.specs.declared.rows.LayerRow.{LayerRow}
use Rattle.farm_types.specs.Farm.{layers_of}
use Rattle.row_index.specs.Index.{LayerKnown}
use Rattle.row_index.proofs.Frames.{got_mapped}
use Rattle.stored_rows.specs.Known.{layer_known}
use Rattle.stored_rows.proofs.stored_rows.StoredRows.known_named.Goals as goal

pub returns : goal.returns
returns c =
    let f = c.args.self.now.farm in
    let layers = layers_of f.layers c.args.job in
    let known = layer_known f.slots in
    let test = λ (l : LayerRow). bytes_eq l.name c.args.name.now in
    let at = c.place_named-place.result in
    let place : at ≡ position_or_len test layers = c.place_named-place.ensures ∙ ap (position_or_len test) c.layers_of.ensures in
    c.row_at.ensures ∙ ap (λ (ks : List LayerKnown). slice_get ks at) c.known_of.ensures ∙ got_mapped known layers at ∙ ap (λ (n : ℕ). option_map known (slice_get layers n)) place ∙ ap (option_map known) (sym (find_at test layers))
