use Rattle.std.proofs.Common.{◌≡◌}
use Rattle.std.specs.Slice.Iter.{iter_rest}
use Rattle.stored_farm.specs.Ends.{first_wrong}
use Rattle.stored_farm.proofs.ends.first_wrong.Given as goal

abbrev pub invariant-loop-depend : goal.invariant-loop-depend
invariant-loop-depend l = record {
  can_next : (goal.iterator-loop-depend).can_next l.depend-iterator;
  is_finite : (goal.iterator-loop-depend).is_finite l.depend-iterator;
  first : first_wrong l.met l.slots (iter_rest l.depend-iterator.a) (iter_rest l.depend-iterator.b) ≡ first_wrong l.met l.slots l.depends l.groups;
}
