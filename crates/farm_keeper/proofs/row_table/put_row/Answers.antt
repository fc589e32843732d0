use Rattle.std.proofs.Common.{Some, subst}
use Rattle.std.specs.Prelude.{OnOk}
use Rattle.indexmap.specs.IndexMap.{Updates}
use Rattle.farm_keeper.specs.Rows.{key_of}
use Rattle.farm_keeper.proofs.row_table.put_row.Goals as goal
use Rattle.farm_keeper.proofs.TableLemmas.{key_eq, table-put}

pub returns-clause-put : goal.returns-clause-put
returns-clause-put c =
    let is : Updates key_eq c.args.table.now c.insert-put.new.self (key_of c.args.row) (Some c.args.row.bytes) =
    subst (λ r. OnOk r (Updates key_eq c.args.table.now c.insert-put.new.self (key_of c.args.row) (Some c.args.row.bytes))) c.unwrap.ensures c.insert-put.ensures.updates in
    table-put c.args.table.now.entries c.insert-put.new.self.entries (key_of c.args.row) c.args.row.bytes is.0
