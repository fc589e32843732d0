use Rattle.std.proofs.Common.{[]}
use Rattle.sqlite.specs.Held.{state}
use Rattle.keeper_sqlite.proofs.CommitLemmas.{err_any}
use Rattle.keeper_sqlite.proofs.HoldLemmas.{undone_not_run}
use Rattle.keeper_sqlite.proofs.batches.touch.Goals as goal

pub returns-in_err-prepare-clause-err : goal.returns-in_err-prepare-clause-err
returns-in_err-prepare-clause-err g c clean o =
    err_any c.from_residual.result (undone_not_run (state g.S.Store c.args.conn.now) (state g.S.Store c.prepare.new.self) _ [] _ (c.in_err-prepare.ensures.err clean []) o)
