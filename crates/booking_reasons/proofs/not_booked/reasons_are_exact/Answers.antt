use Rattle.booking_reasons.proofs.Reasons.{record_same}
use Rattle.booking_reasons.proofs.not_booked.reasons_are_exact.Goals as goal

pub returns : goal.returns
returns c = record_same
