use Rattle.std.proofs.Common.{◌∙◌, ap, refl, Option}
use Rattle.farm_types.specs.Farm.{for_some, layer_at}
use Rattle.row_index.specs.Index.{LayerKnown}
use Rattle.stored_rows.specs.Known.{is_free}
use Rattle.stored_rows.proofs.Numbers.{known_free}
use Rattle.stored_rows.proofs.stored_rows.StoredRows.has_place.Goals as goal

pub returns-in-Some : goal.returns-in-Some
returns-in-Some c =
    let f = c.args.self.now.farm in
    let x = c.args.frame.now in
    c.is_free.ensures ∙ ap (λ (o : Option LayerKnown). for_some o (λ k. is_free k x.number)) c.in-Some.ensures
    ∙ known_free f.slots f.layers x.job x.layer x.number (layer_at f x.job x.layer) refl
