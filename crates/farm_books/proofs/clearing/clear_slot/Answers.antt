use Rattle.farm_books.proofs.Clears.{cleared_one}
use Rattle.std.proofs.Common.{sym, subst, eqb}
use Rattle.depend_book.specs.Book.{DependLists}
use Rattle.farm_books.specs.Cleared.{IsCleared}
use Rattle.farm_books.proofs.clearing.clear_slot.Goals as goal

pub returns : goal.returns
returns c = subst (λ (b : DependLists). IsCleared (λ n. eqb c.args.slot n) c.args.depends.now b) (sym c.set_done.ensures) (cleared_one c.args.depends.now c.args.slot c.kept.ensures)
