use Rattle.std.proofs.Common.{◌∙◌, ◌++◌, List, [], ap, sym}
use Rattle.std.specs.Ordering.{int_eq}
use Rattle.std.proofs.lemmas.List.{append-nil}
use Rattle.std.proofs.lemmas.Slice.Zip.{either_empty_from_Zip}
use Rattle.indexmap.specs.IndexMap.{get}
use Rattle.farm_types.specs.declared.depend.Group.{Group}
use Rattle.depend_kinds.specs.Found.{found_or}
use Rattle.depend_kinds.proofs.PairsLeft.{found_end}
use Rattle.depend_kinds.proofs.pairs.groups_found.Goals as goal

pub returns : goal.returns
returns c =
    let l = c.loop-number in
    let none = either_empty_from_Zip l.number-iterator c.next.new.self c.next.result c.in-None.is c.next.ensures.steps in
    sym (append-nil l.groups) ∙ ap (λ (rest : List Group). l.groups ++ rest) (sym (found_end (λ number. found_or (get int_eq c.args.targets.now number) []) l.position c.args.any _ _ none)) ∙ l.invariant
