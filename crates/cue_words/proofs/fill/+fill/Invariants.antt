use Rattle.std.proofs.Common.{length}
use Rattle.cue_words.proofs.fill.+fill.Given as goal

abbrev pub decreases-fill : goal.decreases-fill
decreases-fill l = length l.parts.now
