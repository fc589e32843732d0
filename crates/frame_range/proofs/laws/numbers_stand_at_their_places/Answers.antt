use Rattle.frame_range.specs.Sets.{numbers_of}
use Rattle.frame_range.proofs.DistinctLemmas.{get_of_place, place_of_get, numbers_distinct}
use Rattle.frame_range.proofs.laws.numbers_stand_at_their_places.Goals as goal

pub returns : goal.returns
returns c =
    λ sections i z. (get_of_place z (numbers_of sections) i, place_of_get z (numbers_of sections) i (numbers_distinct sections))
