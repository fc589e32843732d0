use Rattle.std.proofs.Common.{◌≡◌, ◌++◌, replicate, None}
use Rattle.std.specs.Vec.{vec_capacity}
use Rattle.attempt_book.proofs.attempts.grow_by.Given as goal

abbrev pub invariant-loop : goal.invariant-loop
invariant-loop l = record {
  items : l.procs.items ≡ l.fn.procs.items ++ replicate l.counter None;
  capacity : vec_capacity l.procs ≡ vec_capacity l.fn.procs;
}
