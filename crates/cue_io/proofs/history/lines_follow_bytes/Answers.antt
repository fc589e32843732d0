use Rattle.cue_io.specs.History.{Continues-fault, HasGiven-first, HasGiven-new, HasGiven-next}
use Rattle.cue_io.proofs.history.lines_follow_bytes.Goals as goal

pub returns : goal.returns
returns c = record { made = HasGiven-new; next = HasGiven-next; fault = Continues-fault; first = HasGiven-first }
