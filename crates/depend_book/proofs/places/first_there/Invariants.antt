use Rattle.std.proofs.Common.{◌≡◌, drop}
use Rattle.std.specs.Prelude.{find}
use Rattle.depend_book.specs.Rows.{is_there}
use Rattle.depend_book.proofs.places.first_there.Given as goal

abbrev pub invariant-loop-at : goal.invariant-loop-at
invariant-loop-at l = find is_there (drop l.at l.places) ≡ find is_there (drop l.from l.places)
