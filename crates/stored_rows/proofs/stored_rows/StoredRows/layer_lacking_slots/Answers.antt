use Rattle.std.proofs.Common.{◌≡◌, ◌∙◌, ap, ℕ, List, Option}
use Rattle.std.specs.Prelude.{option_map, slice_get}
use Rattle.std.specs.List.{position_or_len}
use Rattle.farm_types.specs.declared.rows.LayerRow.{LayerRow}
use Rattle.farm_types.specs.Rising.{layer_key}
use Rattle.farm_rows.specs.Recovery.{first_layer, lacks_slots}
use Rattle.row_index.specs.Index.{lacks_any}
use Rattle.stored_rows.specs.Inside.{told_of}
use Rattle.stored_rows.specs.Told.{Told}
use Rattle.stored_rows.proofs.KnownEnds.{at_layer, lacking_known}
use Rattle.stored_rows.proofs.stored_rows.StoredRows.layer_lacking_slots.Goals as goal

pub returns : goal.returns
returns c =
    let a = c.self.inside in
    let at = c.place_lacking-place.result in
    let key = c.key_at.ensures ∙ ap (λ (ls : List LayerRow). option_map layer_key (slice_get ls at)) c.as_slice-2.ensures.value in
    let place : at ≡ position_or_len lacks_any a.layers.items = c.place_lacking-place.ensures ∙ ap (position_or_len lacks_any) c.as_slice.ensures.value in
    ap (λ (o : Option ℕ). option_map at_layer o) key ∙ lacking_known (told_of a).farm a.layers.items at c.self.invariant.told.of_layers.known place
    ∙ ap (λ (t : Told). first_layer (lacks_slots t.farm) t.farm.layers) c.self.view_is
