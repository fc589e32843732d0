use Rattle.std.proofs.Common.{◌∙◌, List, sym, ap}
use Rattle.farm_types.specs.declared.rows.HostRow.{HostRow}
use Rattle.farm_draft.specs.Drafted.{with_hosts}
use Rattle.farm_draft.proofs.HostLives.{stays_down}
use Rattle.farm_draft.proofs.draft.Draft.reopen_one.Goals as goal

pub returns-then-not-is_up : goal.returns-then-not-is_up
returns-then-not-is_up c =
    let d = c.args.self.now in
    sym (ap (λ (hs : List HostRow). with_hosts d hs) (stays_down d.moment c.args.host d.farm.hosts c.in-Some.life (sym c.life.ensures ∙ c.in-Some.is) (sym c.is_up.ensures ∙ c.if-not-is_up.true)))
