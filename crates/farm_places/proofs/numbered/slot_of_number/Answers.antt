use Rattle.std.proofs.Common.{◌∙◌, sym, w32}
use Rattle.std.proofs.lemmas.Int.{to_z-of_z}
use Rattle.farm_places.proofs.FoundFrames.{found_apart}
use Rattle.farm_places.proofs.numbered.slot_of_number.Goals as goal

pub returns-in-Some : goal.returns-in-Some
returns-in-Some c =
    let it = c.in-Some.ensures in
    sym (found_apart c.args.jobs.now.slots c.args.number c.args.slots.now c.in-Some.slot it.place c.requires it.at (it.number_is ∙ to_z-of_z w32 c.args.number c.ranges.number))
