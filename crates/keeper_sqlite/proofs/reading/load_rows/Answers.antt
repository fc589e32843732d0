use Rattle.std.proofs.Common.{rules, ◌≡◌, ◌∷◌, ◌∙◌, map, ap, arith}
use Rattle.std.specs.FinMap.{entries}
use Rattle.sqlite_value.specs.declared.value.Value.TheVariants.{Null}
use Rattle.sqlite.specs.Held.{state}
use Rattle.sqlite.specs.State.{HasCleanDisk}
use Rattle.farm_keeper.specs.Rows.{entry_of}
use Rattle.keeper_sqlite.specs.Told.{IsRising, entry_in}
use Rattle.keeper_sqlite.proofs.ReadLemmas.{listed}
use Rattle.keeper_sqlite.proofs.reading.load_rows.Goals as goal

pub returns-clause-listed : goal.returns-clause-listed
returns-clause-listed g c clean rows held =
    let old = state g.S.Store c.args.conn.now in
    let r = c.in_ok-shown.ensures.read clean in
    let early : HasCleanDisk old = omega (arith, clean, c.select.ensures.survives.clean) in
    let was = held early r.was_open in
    let up : IsRising c.in_ok-list.list = search rules in
    let read : map entry_of c.in_ok-list.list ≡ map (λ x. entry_in (Null ∷ x)) c.in_ok-shown.shown.items = search rules in
    listed (old.now.trees 0) c.in_ok-shown.shown.items c.in_ok-list.list was.0.rows (r.are was.0.schema) read up ∙ ap entries was.1
