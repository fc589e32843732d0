use Rattle.std.proofs.Common.{ℕ}
use Rattle.std.proofs.lemmas.List.Elements.{recursion_from_All}
use Rattle.farm_rows.specs.Rows.{rows_in}
use Rattle.farm_types.specs.Farm.{Farm}
use Rattle.row_codec.specs.RowLaws.{FitsIn}
use Rattle.session.proofs.StopLemmas.{old_again}
use Rattle.session.proofs.laws.migrations_keep_farms.Goals as goal

pub returns : goal.returns
returns c =
    λ given f rows list says.
    old_again c.stores_are_listed_in_order.ensures.only
    (λ (format : ℕ) (f : Farm) kept has.
    c.farms_are_recovered.ensures format f kept has (recursion_from_All (FitsIn format) (rows_in format f) (c.rows_fit.ensures format f kept has)))
    f rows list (c.rows_recovered_are_the_farms.ensures.kept given (record { farm = f; format = says.0 }) says.1)
