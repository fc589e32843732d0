use Rattle.std.proofs.Common.{◌≡◌, drop, length, arith}
use Rattle.job_book.specs.Lowest.{lowest_free}
use Rattle.job_book.proofs.PlacementLemmas.FreePlaces.{enough}
use Rattle.job_book.proofs.placement.free_places.free_places.Goals as goal

pub returns-then-len-count : goal.returns-then-len-count
returns-then-len-count c =
    let slots = c.args.slots.now in
    let full : length c.loop-place.places.items ≡ c.args.count = omega (arith, c.len.ensures, c.if-len-count.true) in
    enough slots c.args.count c.loop-place.place (lowest_free c.args.first (drop c.args.first slots) c.args.count) c.loop-place.places.items full c.loop-place.invariant.found
