use Rattle.std.proofs.Common.{ap, ◌∙◌, List, ℕ}
use Rattle.std.specs.List.{list_any}
use Rattle.std.specs.Str.{bytes_eq}
use Rattle.farm_types.specs.declared.rows.LimitRow.{LimitRow}
use Rattle.farm_types.specs.Kept.{limit_label}
use Rattle.row_index.proofs.Named.{any_labelled}
use Rattle.stored_rows.specs.Told.{Told}
use Rattle.stored_rows.proofs.stored_rows.StoredRows.has_limit.Goals as goal

pub returns : goal.returns
returns c =
    c.has.ensures ∙ ap (list_any (λ (other : List ℕ). bytes_eq other c.args.name.now)) c.self.invariant.limits
    ∙ any_labelled limit_label c.args.name.now c.self.inside.lists.limits.items ∙ ap (λ (t : Told). list_any (λ (x : LimitRow). bytes_eq (limit_label x) c.args.name.now) t.farm.limits) c.self.view_is
