use Rattle.recording_table.proofs.MayRecord.{has_place, is_allowed, is_why_left}
use Rattle.recording_table.proofs.bookings.claims_can_be_booked.Goals as goal

pub returns : goal.returns
returns c = record {
  placed = λ v k p kept may can. has_place v k p may can kept (c.used_is_running.ensures _ kept);
  allowed = λ f slot host kept k. is_allowed f slot host kept k;
  reason = λ f slot host kept k. is_why_left f slot host kept k;
}
