use Rattle.std.proofs.Common.{◌∙◌, ap, Option, ℤ}
use Rattle.std.specs.List.{position_or_len}
use Rattle.std.specs.Ordering.{int_eq}
use Rattle.farm_types.specs.Farm.{layer_at}
use Rattle.row_index.specs.Index.{LayerKnown}
use Rattle.stored_rows.proofs.Numbers.{known_numbers, numbers_known}
use Rattle.stored_rows.proofs.stored_rows.StoredRows.position_of.Goals as goal

pub returns-in-Some-clause-value : goal.returns-in-Some-clause-value
returns-in-Some-clause-value c =
    let f = c.args.self.now.farm in
    let x = c.args.frame.now in
    let at = position_or_len (λ (n : ℤ). int_eq n x.number) in
    c.position_in.ensures.value ∙ ap (λ (o : Option LayerKnown). at (known_numbers o)) c.in-Some.ensures ∙ ap at (numbers_known f.slots (layer_at f x.job x.layer))
