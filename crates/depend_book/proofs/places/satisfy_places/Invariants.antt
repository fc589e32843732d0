use Rattle.std.proofs.Common.{◌≡◌, ℕ, drop}
use Rattle.std.specs.Vec.{vec_capacity}
use Rattle.farm_types.specs.Rising.{IsRising}
use Rattle.depend_book.specs.Rows.{place_key, satisfied_places}
use Rattle.depend_book.proofs.places.satisfy_places.Given as goal

abbrev pub invariant-loop-depend : goal.invariant-loop-depend
invariant-loop-depend l =
    (satisfied_places (drop l.depend-index l.depends) l.places.items ≡ satisfied_places l.depends l.initial.places.items)
    × (vec_capacity l.places ≡ vec_capacity l.initial.places)
    × ((high : ℕ) × IsRising place_key 1 l.places.items high)
