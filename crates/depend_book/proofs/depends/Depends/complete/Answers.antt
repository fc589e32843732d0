use Rattle.std.proofs.Common.{◌≡◌, ◌∙◌, ℕ, zero, suc, ◌+◌, ◌<◌, List, [], ◌∷◌, true, drop, get_or, length, ap, arith}
use Rattle.depend_book.specs.Book.{DependLists, all_done_in, done_in}
use Rattle.depend_book.proofs.depends.Depends.complete.Goals as goal

-- the slot at a place is the next of those that are left
next_done : (slots : List ℕ) (i slot : ℕ) (b : DependLists) → i < length slots → slot ≡ get_or slots i slot
    → all_done_in (done_in b slot true) (drop (i + 1) slots) ≡ all_done_in b (drop i slots)
next_done [] i slot b within at = absurd (omega arith)
next_done (s ∷ ss) zero slot b within at = ap (λ (n : ℕ). all_done_in (done_in b n true) ss) at
next_done (s ∷ ss) (suc i) slot b within at =
    let later : suc i + 1 ≡ suc (i + 1) = omega arith in
    rw later (next_done ss i slot b (omega arith) at)

pub loop-slot-preserved : goal.loop-slot-preserved
loop-slot-preserved c =
    let slots = c.args.slots.now in
    let i = c.loop-slot.slot-index in
    let next = next_done slots i c.slot-item.result c.loop-slot.self (omega arith) c.slot-item.is in
    ap (λ (b : DependLists). all_done_in b (drop (i + 1) slots)) c.set_done.ensures ∙ next ∙ c.loop-slot.invariant
