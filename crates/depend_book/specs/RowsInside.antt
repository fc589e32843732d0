-- What the list of rows keeps true of its fields.
use Rattle.std.specs.Prelude.{◌≡◌, ◌≤◌, ◌*◌, count_by}
use Rattle.std.specs.Vec.{vec_capacity}
use Rattle.farm_types.specs.declared.limits.TheConstants.{MOST_DEPENDS}
use Rattle.farm_types.specs.Rising.{IsRising}
use Rattle.depend_book.specs.Rows.{KeepsPlaces, RowLists, is_there, place_key, rows_there}
use Rattle.depend_book.specs.declared.row_list.RowList.TheInside.{Inside}

abbrev pub rows_in : Inside → RowLists
rows_in a = record { rows = rows_there a.places.items; next = a.next }

-- numbers rise, also of places that are gone
pub record KeepsRows (a : Inside) : Type 0 where
  pub rise : IsRising place_key 1 a.places.items a.next
  pub places : KeepsPlaces a.places.items a.newest
  pub count : a.count ≡ count_by is_there a.places.items
  pub count_within : a.count ≤ MOST_DEPENDS
  pub capacity : 2 * MOST_DEPENDS ≤ vec_capacity a.places
