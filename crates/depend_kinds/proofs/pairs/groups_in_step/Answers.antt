use Rattle.std.proofs.Common.{◌∙◌, ◌++◌, List, ap, sym}
use Rattle.std.proofs.lemmas.List.{append-nil}
use Rattle.std.proofs.lemmas.Slice.Zip.{either_empty_from_Zip}
use Rattle.farm_types.specs.declared.depend.Group.{Group}
use Rattle.depend_kinds.proofs.PairsLeft.{step_end}
use Rattle.depend_kinds.proofs.pairs.groups_in_step.Goals as goal

pub returns : goal.returns
returns c =
    let l = c.loop-slot in
    let none = either_empty_from_Zip l.slot-iterator c.next.new.self c.next.result c.in-None.is c.next.ensures.steps in
    sym (append-nil l.groups) ∙ ap (λ (rest : List Group). l.groups ++ rest) (sym (step_end l.position c.args.any _ _ none)) ∙ l.invariant
