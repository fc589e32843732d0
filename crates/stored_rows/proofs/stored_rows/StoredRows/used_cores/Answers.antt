use Rattle.std.proofs.Common.{◌∙◌, ap}
use Rattle.farm_types.specs.Sums.{used_cores}
use Rattle.stored_rows.specs.Told.{Told}
use Rattle.stored_rows.proofs.stored_rows.StoredRows.used_cores.Goals as goal

pub returns : goal.returns
returns c = c.cores.ensures ∙ c.self.invariant.told.of_hosts.cores c.args.host ∙ ap (λ (t : Told). used_cores t.farm c.args.host) c.self.view_is
