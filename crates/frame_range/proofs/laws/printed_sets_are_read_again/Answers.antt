use Rattle.frame_range.proofs.AgainLemmas.{read_again}
use Rattle.frame_range.proofs.laws.printed_sets_are_read_again.Goals as goal

pub returns : goal.returns
returns c = read_again
