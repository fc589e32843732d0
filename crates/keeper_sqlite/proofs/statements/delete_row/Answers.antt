use Rattle.std.proofs.Common.{to_z-of_z}
use Rattle.sqlite.specs.Held.{state}
use Rattle.keeper_sqlite.proofs.DeleteLemmas.{delete_within}
use Rattle.keeper_sqlite.proofs.statements.delete_row.Goals as goal

pub returns-clause-deleted : goal.returns-clause-deleted
returns-clause-deleted g c clean inside =
    delete_within (state g.S.Store c.args.tx.now.conn.now) (state g.S.Store c.execute.new.self.conn.now) c.args.kind c.args.id c.execute.result
    (rw (to_z-of_z c.ranges.id) at (rw (c.params-to_sql.ensures, c.params-to_sql-2.ensures) at (c.execute.ensures.runs clean inside)))
