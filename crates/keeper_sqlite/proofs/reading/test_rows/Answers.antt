use Rattle.std.proofs.Common.{arith, subst}
use Rattle.std.proofs.lemmas.List.Elements.{All-more}
use Rattle.keeper_sqlite.specs.Told.{HasNumbers}
use Rattle.keeper_sqlite.proofs.reading.test_rows.Goals as goal

pub loop-row-preserved : goal.loop-row-preserved
loop-row-preserved c =
    All-more HasNumbers c.args.rows.now c.loop-row.row-index c.row-item.result (omega (arith, c.loop-row-test.true)) c.loop-row.invariant
    (subst HasNumbers c.row-item.is c.in_ok-test_row.ensures)
