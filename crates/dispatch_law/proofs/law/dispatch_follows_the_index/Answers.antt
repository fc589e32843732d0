use Rattle.dispatch_law.proofs.ByIndexLaw.{index_is_sorted}
use Rattle.dispatch_law.proofs.law.dispatch_follows_the_index.Goals as goal

pub returns : goal.returns
returns c = λ f host row kept hosted. index_is_sorted f kept host row hosted
