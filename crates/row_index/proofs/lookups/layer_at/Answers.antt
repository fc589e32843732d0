use Rattle.std.proofs.Common.{◌∙◌, ℕ, ap, eqb}
use Rattle.std.specs.List.{position_or_len}
use Rattle.farm_types.specs.declared.rows.LayerRow.{LayerRow}
use Rattle.farm_types.specs.Rising.{layer_key}
use Rattle.row_index.proofs.Layers.{place_by_key, place_past}
use Rattle.row_index.proofs.lookups.layer_at.Goals as goal

pub returns-then-place-ge-MOST_LAYERS : goal.returns-then-place-ge-MOST_LAYERS
returns-then-place-ge-MOST_LAYERS c = place_past c.args.job c.args.place c.args.layers.now c.if-place-ge-MOST_LAYERS.true c.requires.places

pub returns : goal.returns
returns c =
    let layers = c.args.layers.now in
    c.layer_place.ensures ∙ ap (λ (key : ℕ). position_or_len (λ (l : LayerRow). eqb (layer_key l) key) layers) c.layer_key.ensures
    ∙ place_by_key c.args.job c.args.place layers c.if-place-ge-MOST_LAYERS.false c.requires.places
