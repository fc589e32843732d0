use Rattle.std.proofs.Common.{take}
use Rattle.farm_books.specs.Cleared.{is_listed}
use Rattle.farm_books.specs.Cleared.{IsCleared}
use Rattle.farm_books.proofs.clearing.clear_slots.Given as goal

abbrev pub invariant-loop-slot : goal.invariant-loop-slot
invariant-loop-slot l = IsCleared (is_listed (take l.slot-index l.slots)) l.fn.depends l.depends
