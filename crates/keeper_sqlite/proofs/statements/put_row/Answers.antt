use Rattle.std.proofs.Common.{to_z-of_z}
use Rattle.sqlite.specs.Held.{state}
use Rattle.keeper_sqlite.proofs.PutLemmas.{put_within}
use Rattle.keeper_sqlite.proofs.statements.put_row.Goals as goal

pub returns-clause-put : goal.returns-clause-put
returns-clause-put g c clean inside =
    put_within (state g.S.Store c.args.tx.now.conn.now) (state g.S.Store c.execute.new.self.conn.now) c.args.kind c.args.id c.args.bytes.now c.execute.result
    (rw (to_z-of_z c.ranges.id) at (rw (c.params-to_sql.ensures, c.params-to_sql-2.ensures, c.params-to_sql-3.ensures) at (c.execute.ensures.runs clean inside)))
