use Rattle.std.proofs.lemmas.Slice.Zip.{either_empty_from_Zip}
use Rattle.std.specs.Slice.Iter.{iter_rest}
use Rattle.stored_farm.specs.Ends.{is_set, waits_unmet}
use Rattle.stored_farm.proofs.Lookups.{or_nothing}
use Rattle.stored_farm.proofs.PairsLeft.{unmet_end}
use Rattle.stored_farm.proofs.ends.unmet_flags.Goals as goal

pub returns : goal.returns
returns c =
    let l = c.loop-depend in
    let none = either_empty_from_Zip l.depend-iterator c.next.new.self c.next.result c.in-None.is c.next.ensures.steps in
    λ slot below.
    or_nothing (is_set l.flags.items slot) (waits_unmet c.args.met.now (iter_rest l.depend-iterator.a) (iter_rest l.depend-iterator.b) slot) (waits_unmet c.args.met.now c.args.depends.now c.args.groups.now slot)
    (unmet_end c.args.met.now (iter_rest l.depend-iterator.a) (iter_rest l.depend-iterator.b) slot none) (l.invariant.flags slot below)
