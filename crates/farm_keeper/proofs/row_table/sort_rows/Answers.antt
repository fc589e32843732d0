use Rattle.std.proofs.lemmas.Result.{on_ok_weaker}
use Rattle.farm_keeper.proofs.row_table.sort_rows.Goals as goal
use Rattle.farm_keeper.proofs.TableLemmas.{rising, same_entries}
use Rattle.indexmap.specs.IndexMap.{keys}

pub returns-clause-same : goal.returns-clause-same
returns-clause-same c = same_entries c.args.table.now.entries c.sort_keys.new.self.entries c.sort_keys.ensures.reordered.2

pub returns-clause-sorted : goal.returns-clause-sorted
returns-clause-sorted c = on_ok_weaker c.sort_keys.result (λ sorted. rising (keys c.sort_keys.new.self) sorted c.sort_keys.ensures.unique) c.sort_keys.ensures.sorted
