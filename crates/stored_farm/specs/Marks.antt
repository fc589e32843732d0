-- What a search among depends, groups and marks stands on.
use Rattle.std.specs.Prelude.{ℕ, ◌≡◌, true, List, Some, slice_get}
use Rattle.std.specs.List.{list_all}
use Rattle.farm_types.specs.declared.depend.DependRow.{DependRow}
use Rattle.farm_types.specs.declared.depend.Group.{Group}
use Rattle.farm_types.specs.declared.depend.MetRow.{MetRow}
use Rattle.farm_types.specs.Rising.{IsRising, depend_key}
use Rattle.stored_farm.specs.Kept.{has_own_id, met_id}

pub record DependsRise (depends : List DependRow) : Type 0 where
  pub high : ℕ
  pub rise : IsRising depend_key 0 depends high

abbrev pub position_key : Group → ℕ
position_key g = g.position

pub record PositionsRise (groups : List Group) : Type 0 where
  pub high : ℕ
  pub rise : IsRising position_key 0 groups high

-- the positions of each depend's groups rise
abbrev pub EachRises : List (List Group) → Type 0
EachRises groups = (n : ℕ) (gs : List Group) → slice_get groups n ≡ Some gs → PositionsRise gs

-- marks rise by their ids, and each has one of its own
pub record MarksRise (met : List MetRow) : Type 0 where
  pub high : ℕ
  pub rise : IsRising met_id 0 met high
  pub own : list_all has_own_id met ≡ true
