use Rattle.std.proofs.Common.{sym, subst}
use Rattle.farm_books.specs.Books.{IsWhole}
use Rattle.farm_core.proofs.Kept.{whole_empty}
use Rattle.farm_core.proofs.farm.Farm.make.Goals as goal

pub invariant_of-result : goal.invariant_of-result
invariant_of-result c = subst IsWhole (sym c.in_ok-make.ensures) whole_empty
