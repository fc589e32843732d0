use Rattle.std.proofs.Common.{◌∙◌, ap, eqb, sym, ◌&&◌}
use Rattle.std.specs.List.{slice_get}
use Rattle.std.proofs.lemmas.List.Folds.{find_at}
use Rattle.farm_types.specs.declared.rows.LayerRow.{LayerRow}
use Rattle.row_index.proofs.lookups.layer_in.Goals as goal

pub returns : goal.returns
returns c =
    let layers = c.args.layers.now in
    c.row_at.ensures ∙ ap (slice_get layers) c.layer_at.ensures ∙ sym (find_at (λ (l : LayerRow). eqb l.job c.args.job && eqb l.place c.args.place) layers)
