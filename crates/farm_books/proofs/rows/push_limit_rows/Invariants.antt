use Rattle.std.proofs.Common.{◌≡◌, ◌++◌, drop}
use Rattle.farm_rows.specs.declared.farm_row.FarmRow.TheVariants as row
use Rattle.farm_rows.specs.Rows.{numbered}
use Rattle.farm_books.proofs.rows.push_limit_rows.Given as goal

-- the rows so far and those of what is left are all
abbrev pub invariant-loop-place : goal.invariant-loop-place
invariant-loop-place l = l.rows.items ++ numbered row.Limit l.place (drop l.place l.limits) ≡ l.fn.rows.items ++ numbered row.Limit 0 l.limits
