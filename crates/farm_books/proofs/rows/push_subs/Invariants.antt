use Rattle.std.proofs.Common.{◌≡◌, ◌++◌, map}
use Rattle.std.specs.Vec.Iter.{into_iter_items}
use Rattle.farm_rows.specs.declared.farm_row.FarmRow.TheVariants as row
use Rattle.farm_books.proofs.rows.push_subs.Given as goal

-- the rows so far and those of what is left are all
abbrev pub invariant-loop-sub : goal.invariant-loop-sub
invariant-loop-sub l = l.rows.items ++ map row.Sub (into_iter_items l.sub-iterator) ≡ l.fn.rows.items ++ map row.Sub l.fn.subs.items
