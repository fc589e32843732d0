use Rattle.std.proofs.Common.{rules, ◌≡◌}
use Rattle.std.specs.List.{All}
use Rattle.sqlite.specs.Held.{state}
use Rattle.keeper_sqlite.specs.Table.{rows_schema}
use Rattle.keeper_sqlite.specs.Told.{HasNumbers}
use Rattle.keeper_sqlite.proofs.OverLemmas.{over_found}
use Rattle.keeper_sqlite.proofs.opening.found_table.Goals as goal

pub returns-clause-over : goal.returns-clause-over
returns-clause-over g c =
    let mid = c.in_ok-conn.conn in
    let new = c.select.new.conn in
    let ours : mid.schema ≡ rows_schema = search rules in
    let numbers : All HasNumbers c.in_ok-rows.rows.items = search rules in
    over_found (state g.S.Store c.args.connection) (state g.S.Store mid) (state g.S.Store new) c.in_ok-rows.rows.items c.requires.there ours c.in_ok-conn.ensures.clean
    c.requires.settled c.in_ok-conn.ensures.again c.in_ok-rows.ensures.read numbers c.select.ensures.held c.select.ensures.survives (g.met.S.Store.settled mid.store)
    (g.met.S.Store.survives new.store)
