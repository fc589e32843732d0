-- The farm of given lists.
use Rattle.std.specs.Prelude.{ℕ, List}
use Rattle.farm_types.specs.declared.depend.DependRow.{DependRow}
use Rattle.farm_types.specs.declared.depend.MetRow.{MetRow}
use Rattle.farm_types.specs.Farm.{Farm}
use Rattle.farm_rows.specs.declared.book_lists.BookLists.{BookLists}
use Rattle.farm_rows.specs.Lists.{farm_in}

-- the lists' farm with these depends, marks of met groups and next depend's number
abbrev pub whole_in : BookLists → List DependRow → List MetRow → ℕ → Farm
whole_in lists depends met next = record (farm_in lists) { depends = depends; met = met; next_depend = next }
