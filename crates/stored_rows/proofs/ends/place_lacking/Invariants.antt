use Rattle.std.proofs.Common.{◌≡◌, ◌+◌, drop}
use Rattle.std.specs.List.{position_or_len}
use Rattle.row_index.specs.Index.{lacks_any}
use Rattle.stored_rows.proofs.ends.place_lacking.Given as goal

abbrev pub invariant-loop-place : goal.invariant-loop-place
invariant-loop-place l = l.place + position_or_len lacks_any (drop l.place l.known) ≡ position_or_len lacks_any l.known
