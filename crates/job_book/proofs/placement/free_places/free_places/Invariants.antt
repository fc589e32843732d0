use Rattle.std.proofs.Common.{◌≤◌, drop, length}
use Rattle.job_book.specs.Lowest.{lowest_free}
use Rattle.job_book.proofs.PlacementLemmas.FreePlaces.{Found}
use Rattle.job_book.proofs.placement.free_places.free_places.Given as goal

abbrev pub invariant-loop-place : goal.invariant-loop-place
invariant-loop-place l = record {
  few : length l.places.items ≤ l.count;
  found : Found l.slots l.count l.place (lowest_free l.first (drop l.first l.slots) l.count) l.places.items;
}
