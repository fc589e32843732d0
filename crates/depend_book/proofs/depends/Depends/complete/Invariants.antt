use Rattle.std.proofs.Common.{◌≡◌, drop}
use Rattle.depend_book.specs.Book.{all_done_in}
use Rattle.depend_book.proofs.depends.Depends.complete.Given as goal

abbrev pub invariant-loop-slot : goal.invariant-loop-slot
invariant-loop-slot l = all_done_in l.self (drop l.slot-index l.slots) ≡ all_done_in l.initial.self l.slots
