use Rattle.std.proofs.Common.{◌≡◌, drop}
use Rattle.farm_types.specs.Farm.{show_from}
use Rattle.farm_books.proofs.shows.show_in.Given as goal

abbrev pub invariant-loop-place : goal.invariant-loop-place
invariant-loop-place l = show_from l.place l.name (drop l.place l.shows) ≡ show_from 0 l.name l.shows
