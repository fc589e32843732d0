use Rattle.sqlite.specs.Held.{state}
use Rattle.keeper_sqlite.proofs.TableLemmas.{creates}
use Rattle.keeper_sqlite.proofs.opening.make_table.Goals as goal

pub returns-clause-made : goal.returns-clause-made
returns-clause-made g c clean =
    creates (state g.S.Store c.args.conn.now) (state g.S.Store c.execute.new.self) c.execute.result c.requires.idle c.requires.none (c.execute.ensures.runs clean)
