use Rattle.std.proofs.Common.{◌≡◌, ◌-◌, [], length, take}
use Rattle.std.specs.List.{slice_get}
use Rattle.depend_book.specs.Book.{waiting_from}
use Rattle.depend_book.specs.Rows.{rows_there}
use Rattle.depend_book.proofs.waiting.walk_back.Given as goal

abbrev pub invariant-loop-next : goal.invariant-loop-next
invariant-loop-next l = record {
  found : l.found ≡ take (length l.found) (waiting_from l.fn.job [] (rows_there l.places));
  next : l.next ≡ slice_get (waiting_from l.fn.job [] (rows_there l.places)) (length l.found);
}

abbrev pub decreases-loop-next : goal.decreases-loop-next
decreases-loop-next l = length (waiting_from l.fn.job [] (rows_there l.places)) - length l.found
