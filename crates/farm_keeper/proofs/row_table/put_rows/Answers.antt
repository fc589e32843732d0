use Rattle.std.proofs.Common.{rules, arith, ◌≡◌, ◌∷◌, ap, sym, ◌∙◌, length}
use Rattle.std.specs.Vec.Iter.{into_iter_items}
use Rattle.farm_keeper.specs.Rows.{put_all}
use Rattle.farm_keeper.specs.Table.{rows_in}
use Rattle.farm_keeper.proofs.row_table.put_rows.Goals as goal

pub loop-row-preserved : goal.loop-row-preserved
loop-row-preserved c =
    let rest : into_iter_items c.loop-row.row-iterator ≡ c.in-Some.row ∷ into_iter_items c.next.new.self = search rules in
    record {
      can = tt;
      finite = tt;
      room = omega (arith, ap length rest, c.loop-row.invariant.room, c.put_row.ensures.room);
      put = ap (put_all (into_iter_items c.next.new.self)) c.put_row.ensures.put
          ∙ sym (ap (λ rows. put_all rows (rows_in c.loop-row.table.entries)) rest) ∙ c.loop-row.invariant.put;
    }
