use Rattle.booking_table.specs.Seats.{view}
use Rattle.booking_threads.proofs.Stays.{may_split_again}
use Rattle.booking_threads.proofs.words.shared_words.Goals as goal

pub split-second-requires-clause-first : goal.split-second-requires-clause-first
split-second-requires-clause-first g c = may_split_again (view c.in-Ok.seat) (view c.show.new.seat) (view c.split-first.new.seat) c.in-Ok.ensures.made.1 c.show.ensures.free c.split-first.ensures.kept
