use Rattle.sqlite.specs.Held.{state}
use Rattle.keeper_sqlite.proofs.OverLemmas.{over_made}
use Rattle.keeper_sqlite.proofs.opening.with_table.Goals as goal

pub returns-clause-over : goal.returns-clause-over
returns-clause-over g c =
    let conn = c.make_table.new.conn in
    over_made (state g.S.Store c.args.connection) (state g.S.Store conn) c.requires.none c.make_table.ensures.clean c.in_ok-make_table.ensures.made
    (g.met.S.Store.settled conn.store) (g.met.S.Store.survives conn.store)
