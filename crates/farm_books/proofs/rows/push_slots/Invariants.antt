use Rattle.std.proofs.Common.{◌≡◌, ◌++◌, drop}
use Rattle.farm_rows.specs.Rows.{slot_rows}
use Rattle.farm_books.proofs.rows.push_slots.Given as goal

-- the rows so far and those of what is left are all
abbrev pub invariant-loop-place : goal.invariant-loop-place
invariant-loop-place l = l.rows.items ++ slot_rows l.place (drop l.place l.slots) ≡ l.fn.rows.items ++ slot_rows 0 l.slots
