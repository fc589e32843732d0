use Rattle.std.proofs.Common.{◌≡◌, ◌+◌, ◌-◌, ◌++◌}
use Rattle.job_book.specs.Lowest.{places_from}
use Rattle.job_book.proofs.placement.free_places.add_unused.Given as goal

abbrev pub invariant-loop-place : goal.invariant-loop-place
invariant-loop-place l = l.places.items ++ places_from l.place (l.first + l.more - l.place) ≡ l.fn.places.items ++ places_from l.first l.more
