use Rattle.recording_core.proofs.Booking.{books_done}
use Rattle.recording_core.proofs.law.bookings_leave_nothing.Goals as goal

pub returns : goal.returns
returns c = books_done
