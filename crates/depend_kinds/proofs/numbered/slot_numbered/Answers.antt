use Rattle.std.proofs.Common.{◌∙◌, ℤ, ap, sym, w32}
use Rattle.std.proofs.lemmas.Int.{to_z-of_z}
use Rattle.std.proofs.lemmas.Slice.Zip.{either_empty_from_Zip}
use Rattle.farm_types.specs.Groups.{slot_numbered}
use Rattle.depend_kinds.proofs.PairsLeft.{numbered_end}
use Rattle.depend_kinds.proofs.numbered.slot_numbered.Goals as goal

pub returns : goal.returns
returns c =
    let none = either_empty_from_Zip c.loop-other.other-iterator c.next.new.self c.next.result c.in-None.is c.next.ensures.steps in
    sym (numbered_end _ _ _ none) ∙ c.loop-other.invariant.first
    ∙ ap (λ (number : ℤ). slot_numbered number c.args.numbers.now c.args.slots.now) (to_z-of_z w32 c.args.number c.ranges.number)
