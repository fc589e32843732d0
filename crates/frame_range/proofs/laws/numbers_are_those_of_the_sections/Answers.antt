use Rattle.frame_range.proofs.DistinctLemmas.{numbers_from_sections}
use Rattle.frame_range.proofs.laws.numbers_are_those_of_the_sections.Goals as goal

pub returns : goal.returns
returns c = numbers_from_sections
