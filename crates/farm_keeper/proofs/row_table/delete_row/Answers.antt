use Rattle.farm_keeper.proofs.row_table.delete_row.Goals as goal
use Rattle.farm_keeper.proofs.TableLemmas.{table-deleted}

pub returns : goal.returns
returns c = table-deleted c.args.table.now.entries c.swap_remove.new.self.entries c.args.key c.swap_remove.ensures.updates.0
