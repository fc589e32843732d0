use Rattle.booking_table.proofs.Looked.{looks_stay}
use Rattle.booking_table.proofs.laws.looks_stay_in_the_trail.Goals as goal

pub returns : goal.returns
returns c = looks_stay
