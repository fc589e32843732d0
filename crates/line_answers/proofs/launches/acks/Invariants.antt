-- What was found so far is what the front of the list gives.
use Rattle.std.proofs.Common.{◌≡◌, map, take}
use Rattle.farm_types.specs.declared.attempt.DoneItem.{DoneItem}
use Rattle.line_answers.proofs.launches.acks.Given as goal

abbrev pub invariant-loop-item : goal.invariant-loop-item
invariant-loop-item l = l.acks ≡ map (λ (d : DoneItem). d.attempt) (take l.item-index l.done)
