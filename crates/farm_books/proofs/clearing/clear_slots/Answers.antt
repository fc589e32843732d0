use Rattle.std.proofs.Common.{◌≡◌, ◌∙◌, ℕ, ◌+◌, ◌++◌, ◌∷◌, [], List, take, sym, ap, subst, arith, eqb}
use Rattle.std.proofs.lemmas.List.{take_all, take_more}
use Rattle.farm_books.specs.Cleared.{is_listed}
use Rattle.farm_books.specs.Cleared.{IsCleared}
use Rattle.farm_books.proofs.Clears.{cleared_none, cleared_then, listed_more}
use Rattle.farm_books.proofs.clearing.clear_slots.Goals as goal

pub loop-slot-init : goal.loop-slot-init
loop-slot-init c = cleared_none c.args.depends.now

pub loop-slot-preserved : goal.loop-slot-preserved
loop-slot-preserved c =
    let l = c.loop-slot in
    let slots = c.args.slots.now in
    let slot = c.slot-item.result in
    let more : take (l.slot-index + 1) slots ≡ take l.slot-index slots ++ slot ∷ [] = take_more slots l.slot-index slot (omega arith) ∙ ap (λ (s : ℕ). take l.slot-index slots ++ s ∷ []) (sym c.slot-item.is) in
    subst (λ (ss : List ℕ). IsCleared (is_listed ss) c.args.depends.now c.clear_slot.new.depends) (sym more)
    (cleared_then (is_listed (take l.slot-index slots)) (λ n. eqb slot n) (is_listed (take l.slot-index slots ++ slot ∷ [])) c.args.depends.now l.depends c.clear_slot.new.depends l.invariant c.clear_slot.ensures (listed_more (take l.slot-index slots) slot))

pub returns : goal.returns
returns c =
    let l = c.loop-slot in
    subst (λ (ss : List ℕ). IsCleared (is_listed ss) c.args.depends.now l.depends) (take_all l.slot-index c.args.slots.now (omega arith)) l.invariant
