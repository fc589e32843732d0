use Rattle.std.proofs.Common.{subst}
use Rattle.stored_rows.specs.SoFar.{HasFewNumbers}
use Rattle.stored_rows.specs.Told.{Told}
use Rattle.stored_rows.proofs.stored_rows.StoredRows.kept.Goals as goal

pub returns : goal.returns
returns c =
    subst (λ (t : Told). HasFewNumbers t.farm) c.self.view_is c.self.invariant.told.of_layers.numbers
