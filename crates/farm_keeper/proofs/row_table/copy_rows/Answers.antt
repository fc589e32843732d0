use Rattle.std.proofs.Common.{rules, ◌≡◌, map}
use Rattle.farm_keeper.specs.Rows.{entry_of}
use Rattle.farm_keeper.proofs.row_table.copy_rows.Goals as goal
use Rattle.farm_keeper.proofs.TableLemmas.{listed}

pub returns : goal.returns
returns c =
    let all : map entry_of c.loop-key.rows ≡ c.args.table.now.entries = search rules in
    listed c.loop-key.rows c.args.table.now.entries all c.requires
