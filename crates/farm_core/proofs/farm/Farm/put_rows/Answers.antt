use Rattle.farm_core.specs.Change.{after_change}
use Rattle.farm_core.proofs.Prepared.{with_rows}
use Rattle.farm_core.proofs.farm.Farm.put_rows.Goals as goal

pub returns : goal.returns
returns c =
    let f = c.args.self.now in
    let change = c.args.change.now in
    with_rows f c.args.entry.now change c.in_ok-exact.exact c.requires.planned (c.in_ok-exact.ensures (after_change f change) c.requires.rows)
