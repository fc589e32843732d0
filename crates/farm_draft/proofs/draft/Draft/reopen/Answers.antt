use Rattle.std.proofs.Common.{◌∙◌, List, ap}
use Rattle.farm_types.specs.declared.rows.HostRow.{HostRow}
use Rattle.farm_types.specs.Farm.{changed_at}
use Rattle.farm_types.specs.Hosts.{reopened_row}
use Rattle.farm_draft.specs.Drafted.{Drafted, with_hosts}
use Rattle.farm_draft.proofs.Passed.{passed_next}
use Rattle.farm_draft.proofs.draft.Draft.reopen.Goals as goal

pub loop-host-preserved : goal.loop-host-preserved
loop-host-preserved c =
    let d = c.args.self.now in
    let n = c.loop-host.host in
    c.in_ok-reopen_one.ensures
    ∙ (ap (λ (x : Drafted). with_hosts x (changed_at x.farm.hosts n (reopened_row x.moment))) c.loop-host.invariant
    ∙ ap (λ (hs : List HostRow). with_hosts d hs) (passed_next (reopened_row d.moment) n d.farm.hosts))
