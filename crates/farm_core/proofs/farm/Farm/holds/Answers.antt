use Rattle.std.proofs.Common.{◌≡◌, ◌↔◌, IsTrue, Some, subst}
use Rattle.farm_types.specs.Farm.{Farm}
use Rattle.farm_rows.specs.Changes.{row_at, row_key}
use Rattle.farm_core.proofs.farm.Farm.holds.Goals as goal

pub returns : goal.returns
returns c = subst (λ (f : Farm). IsTrue c.has_row.result ↔ (row_at f (row_key c.args.row.now) ≡ Some c.args.row.now)) c.self.view_is c.has_row.ensures
