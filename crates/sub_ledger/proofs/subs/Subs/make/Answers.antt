use Rattle.std.proofs.Common.{rules}
use Rattle.sub_ledger.proofs.Books.{no_subs_are}
use Rattle.sub_ledger.proofs.subs.Subs.make.Goals as goal

pub returns : goal.returns
returns c = no_subs_are _ (c.in_ok-vec.ensures.items_if_clones_equal (λ y h. search rules))
