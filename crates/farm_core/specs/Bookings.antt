-- Bookings that were decided, with the rows of the store that they change.
use Rattle.std.specs.Prelude.{List}
use Rattle.farm_types.specs.Farm.{Farm}
use Rattle.farm_types.specs.Run.{IsLegalStep}
use Rattle.farm_types.specs.Step.{after}
use Rattle.farm_rows.specs.declared.row_change.RowChange.{RowChange}
use Rattle.farm_rows.specs.Changes.{NamesExactly}
use Rattle.farm_books.specs.Bookings as books
use Rattle.farm_books.specs.Bookings.{entry_of}
use Rattle.farm_core.specs.declared.booking.Booking.{Booking}
use Rattle.farm_core.specs.declared.booking.BookingRows.{BookingRows}
use Rattle.farm_core.specs.declared.booking.BookingRows.TheVariants as changed

-- the rows that change
abbrev pub rows_in : BookingRows → List RowChange
rows_in (changed.Slot rows) = rows
rows_in (changed.Both rows) = rows

-- The booking is one of the farm's books, and its entry is legal. It has exactly the rows in which the farm and the one with it differ, each as it will be.
pub record IsBookingOf (f : Farm) (b : Booking) : Type 0 where
  pub booked : books.IsBooking f b.booked
  pub legal : IsLegalStep f (entry_of b.booked)
  pub rows : NamesExactly f (after f (entry_of b.booked)) (rows_in b.rows)
