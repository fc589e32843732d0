-- The groups so far and those of the frames that are left are all.
use Rattle.std.proofs.Common.{◌≡◌, ◌++◌, [], ℤ}
use Rattle.std.specs.Ordering.{int_eq}
use Rattle.std.specs.Slice.Iter.{iter_rest}
use Rattle.indexmap.specs.IndexMap.{get}
use Rattle.depend_kinds.specs.Found.{found_or, groups_found}
use Rattle.depend_kinds.proofs.pairs.groups_found.Given as goal

abbrev pub invariant-loop-number : goal.invariant-loop-number
invariant-loop-number l =
    let look = λ (number : ℤ). found_or (get int_eq l.targets number) [] in
    l.groups ++ groups_found look l.position l.any (iter_rest l.number-iterator.a) (iter_rest l.number-iterator.b) ≡ groups_found look 0 l.any l.numbers l.slots
