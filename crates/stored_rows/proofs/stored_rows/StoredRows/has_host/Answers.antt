use Rattle.std.proofs.Common.{ap, ◌∙◌, List, ℕ}
use Rattle.std.specs.List.{list_any}
use Rattle.std.specs.Str.{bytes_eq}
use Rattle.farm_types.specs.declared.rows.HostRow.{HostRow}
use Rattle.farm_types.specs.Kept.{host_label}
use Rattle.row_index.proofs.Named.{any_labelled}
use Rattle.stored_rows.specs.Told.{Told}
use Rattle.stored_rows.proofs.stored_rows.StoredRows.has_host.Goals as goal

pub returns : goal.returns
returns c =
    c.has_name.ensures ∙ ap (list_any (λ (other : List ℕ). bytes_eq other c.args.name.now)) c.self.invariant.told.of_hosts.names
    ∙ any_labelled host_label c.args.name.now c.self.inside.lists.hosts.items ∙ ap (λ (t : Told). list_any (λ (x : HostRow). bytes_eq (host_label x) c.args.name.now) t.farm.hosts) c.self.view_is
