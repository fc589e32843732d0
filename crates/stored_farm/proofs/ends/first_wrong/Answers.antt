use Rattle.std.proofs.Common.{◌∙◌, sym}
use Rattle.std.proofs.lemmas.Slice.Zip.{either_empty_from_Zip}
use Rattle.stored_farm.proofs.PairsLeft.{wrong_end}
use Rattle.stored_farm.proofs.ends.first_wrong.Goals as goal

pub returns : goal.returns
returns c =
    let none = either_empty_from_Zip c.loop-depend.depend-iterator c.next.new.self c.next.result c.in-None.is c.next.ensures.steps in
    sym (wrong_end c.args.met.now c.args.slots.now _ _ none) ∙ c.loop-depend.invariant.first
