use Rattle.std.proofs.Common.{◌≡◌, ◌∙◌, ℕ, ◌+◌, ◌++◌, ◌∷◌, [], List, nat_eq, take, sym, ap, subst, arith}
use Rattle.std.proofs.lemmas.List.{take_all, take_more}
use Rattle.std.proofs.lemmas.List.Sorted.{IsNonDecreasingBy-from_sort}
use Rattle.indexmap.specs.IndexMap.{get}
use Rattle.depend_graph.proofs.TrialLemmas.Counted.{IsCounted, end_counted, step_counted}
use Rattle.depend_graph.proofs.trials.opens.opened_by.Goals as goal

pub loop-slot-preserved : goal.loop-slot-preserved
loop-slot-preserved c =
    let l = c.loop-slot in
    let freed = c.args.freed.now in
    let slot = c.slot-item.result in
    let more : take (l.slot-index + 1) freed ≡ take l.slot-index freed ++ slot ∷ [] = take_more freed l.slot-index slot (omega arith) ∙ ap (λ (s : ℕ). take l.slot-index freed ++ s ∷ []) (sym c.slot-item.is) in
    subst (λ (ss : List ℕ). IsCounted c.args.unmet.now ss (get nat_eq c.free.new.waiting) c.free.new.slots.items) (sym more)
    (step_counted c.args.unmet.now (take l.slot-index freed) (get nat_eq l.waiting) (get nat_eq c.free.new.waiting) l.slots.items c.free.new.slots.items slot l.invariant c.in_ok-free.ensures)

pub returns : goal.returns
returns c = λ olds news was then.
    let l = c.loop-slot in
    let freed = c.args.freed.now in
    let all : take l.slot-index freed ≡ freed = take_all l.slot-index freed (omega arith) in
    let counted = subst (λ (ss : List ℕ). IsCounted c.args.unmet.now ss (get nat_eq l.waiting) l.slots.items) all l.invariant in
    c.from_vec.ensures
    ∙ end_counted c.args.unmet.now freed (get nat_eq l.waiting) l.slots.items c.sort_unstable.new.self.items counted c.requires
    (IsNonDecreasingBy-from_sort (λ n. n) c.sort_unstable.new.self.items c.sort_unstable.ensures.sorted) c.sort_unstable.ensures.permutation olds news was then
