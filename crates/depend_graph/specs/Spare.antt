-- What is reserved for a depend.
use Rattle.std.specs.Prelude.{ℕ, List, length}
use Rattle.farm_types.specs.declared.depend.Group.{Group}
use Rattle.depend_edges.specs.Aims.{Aim, aims_from}

-- for so many groups, with an edge for each of these targets
pub record SpareLists : Type 0 where
  pub groups : ℕ
  pub aims : List Aim

-- what is reserved for groups
unfoldable pub spare_of : List Group → SpareLists
spare_of groups = record { groups = length groups; aims = aims_from 0 groups }
