-- The book of depends beside the farm's other rows.
use Rattle.std.specs.Prelude.{ℕ, ◌≡◌, false, map, slice_get, Some}
use Rattle.farm_types.specs.declared.depend.DependRow.{DependRow}
use Rattle.farm_types.specs.declared.depend.Group.{Group}
use Rattle.farm_types.specs.Depends.{groups_of, is_done}
use Rattle.farm_types.specs.Farm.{Farm}
use Rattle.farm_types.specs.Kept.{IsKeptFarm}
use Rattle.depend_graph.specs.Graph.{Watch, Watched, is_flagged}
use Rattle.depend_book.specs.Book.{DependLists, joined}

abbrev pub group_in : Watched → Group
group_in w = w.group

-- The graph has the frames of the farm that are done, and the groups of each depend that isn't satisfied.
pub record Fits (f : Farm) (b : DependLists) : Type 0 where
  pub done : (slot : ℕ) → is_flagged b.graph.done slot ≡ is_done f.slots slot
  pub groups : (i : ℕ) (d : DependRow) (w : Watch) → slice_get b.rows i ≡ Some d → slice_get b.graph.depends i ≡ Some w → d.met_all ≡ false
      → map group_in w.groups ≡ groups_of f d

-- the farm with these depends keeps what every farm keeps, and the book fits it
pub record IsBeside (f : Farm) (b : DependLists) : Type 0 where
  pub kept : IsKeptFarm (joined f b)
  pub fits : Fits f b
