-- The targets of groups.
use Rattle.std.specs.Prelude.{ℕ, ◌+◌, List, [], ◌∷◌, ◌++◌, map}
use Rattle.farm_types.specs.declared.depend.Group.{Group}

-- a target of a group, which is named by its place
pub record Aim : Type 0 where
  pub slot : ℕ
  pub group : ℕ

abbrev pub aim_at : ℕ → ℕ → Aim
aim_at group slot = record { slot = slot; group = group }

-- the targets of groups in order, with the groups' places counted from one on
abbrev pub aims_from : ℕ → List Group → List Aim
aims_from place [] = []
aims_from place (g ∷ gs) = map (aim_at place) g.targets ++ aims_from (place + 1) gs
