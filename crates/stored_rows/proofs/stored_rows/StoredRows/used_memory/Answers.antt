use Rattle.std.proofs.Common.{◌∙◌, ap}
use Rattle.farm_types.specs.Sums.{used_memory}
use Rattle.stored_rows.specs.Told.{Told}
use Rattle.stored_rows.proofs.stored_rows.StoredRows.used_memory.Goals as goal

pub returns : goal.returns
returns c = c.memory.ensures ∙ c.self.invariant.told.of_hosts.memory c.args.host ∙ ap (λ (t : Told). used_memory t.farm c.args.host) c.self.view_is
