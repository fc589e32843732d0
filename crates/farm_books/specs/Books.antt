-- The books as contracts see them: the farm, with its depends, and the graph of these.
use Rattle.std.specs.Prelude.{◌≡◌}
use Rattle.farm_types.specs.Farm.{Farm, empty_farm}
use Rattle.farm_types.specs.Kept.{IsKeptFarm}
use Rattle.depend_graph.specs.Graph.{GraphLists, no_graph}
use Rattle.depend_book.specs.Book.{DependLists, joined, marks_of}
use Rattle.depend_book.specs.Fits.{Fits}

-- the farm, and the graph of its depends' groups
pub record FarmBooks : Type 0 where
  pub farm : Farm
  pub graph : GraphLists

abbrev pub empty_books : FarmBooks
empty_books = record { farm = empty_farm; graph = no_graph }

-- another farm of the same depends
abbrev pub with_farm : FarmBooks → Farm → FarmBooks
with_farm v f = record { farm = f; graph = v.graph }

-- the book of the farm's depends
abbrev pub depends_of : FarmBooks → DependLists
depends_of v = record { rows = v.farm.depends; graph = v.graph; next = v.farm.next_depend }

-- the same farm with other depends
abbrev pub with_depends : FarmBooks → DependLists → FarmBooks
with_depends v b = record { farm = joined v.farm b; graph = b.graph }

-- The farm keeps what every farm keeps, its marks are those of the graph, and the graph has what the depends say.
pub record IsWhole (v : FarmBooks) : Type 0 where
  pub kept : IsKeptFarm v.farm
  pub met : v.farm.met ≡ marks_of v.graph.depends
  pub fits : Fits v.farm (depends_of v)
