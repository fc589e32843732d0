use Rattle.std.proofs.Common.{◌∙◌, ap, length}
use Rattle.std.specs.List.{sum_by}
use Rattle.farm_types.specs.Farm.{layers_of}
use Rattle.row_index.specs.Index.{LayerKnown}
use Rattle.stored_rows.proofs.LayerKept.{sum_known}
use Rattle.stored_rows.proofs.stored_rows.StoredRows.frames_said.Goals as goal

pub returns-clause-value : goal.returns-clause-value
returns-clause-value c =
    let f = c.args.self.now.farm in
    c.count_numbers.ensures.value ∙ ap (sum_by (λ (k : LayerKnown). length k.numbers)) c.known_of.ensures ∙ sum_known f.slots (layers_of f.layers c.args.job)
