-- Children of attempts.
use Rattle.std.specs.Prelude.{Bool}
use Rattle.farm_types.specs.declared.attempt.Attempt.{Attempt}
use Rattle.farm_types.specs.Run.{is_same}
use Rattle.child_spawner.specs.declared.child.Child.{Child}

-- whether a child is the attempt's, by its slot and its version
abbrev pub is_child_of : Attempt → Child → Bool
is_child_of a child = is_same child.attempt a
