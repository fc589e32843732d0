use Rattle.frame_range.proofs.GrammarLemmas.{spelled_reads}
use Rattle.frame_range.proofs.SoundLemmas.{read_spells}
use Rattle.frame_range.proofs.laws.sections_are_read_as_spelled.Goals as goal

pub returns : goal.returns
returns c = λ text s. (read_spells text s, spelled_reads text s)
