use Rattle.std.proofs.Common.{◌∙◌, ap, sym}
use Rattle.std.specs.Ordering.{int_eq}
use Rattle.std.proofs.lemmas.Slice.Zip.{either_empty_from_Zip}
use Rattle.indexmap.specs.IndexMap.{get}
use Rattle.depend_kinds.specs.Found.{found_or}
use Rattle.depend_kinds.proofs.PairsLeft.{numbered_end}
use Rattle.depend_kinds.proofs.numbered.slots_by_number.Goals as goal

pub returns : goal.returns
returns c =
    let none = either_empty_from_Zip c.loop-number.number-iterator c.next.new.self c.next.result c.in-None.is c.next.ensures.steps in
    λ number. ap (found_or (get int_eq c.loop-number.by_number number)) (sym (numbered_end number _ _ none)) ∙ c.loop-number.invariant number
